-- Instants, lengths in ticks and microseconds are three kinds: which of them each quantity is.
use Rattle.std.specs.Prelude.{ℕ, ◌≡◌, List, Option, Some}
use Rattle.quantities.specs.declared.Instant.{Instant}
use Rattle.quantities.specs.declared.Ticks.{Ticks}
use Rattle.quantities.specs.declared.Micros.{Micros}
use Rattle.quantities.specs.declared.Row.{Row}
use Rattle.records.specs.declared.RowFields.{RowFields}
use Rattle.records.specs.declared.Record.{Record}
use Rattle.records.specs.declared.Record.TheVariants.{Board}
use Rattle.entries.specs.declared.Sheet.{Sheet}
use Rattle.analysis.specs.declared.Analysis.{Analysis}
use Rattle.lentrows.specs.declared.Told.{Told}
use Rattle.bench.specs.declared.RowState.{RowState}
use Rattle.bench.specs.declared.Bench.{Bench}
use Rattle.bench.specs.declared.Finish.{Finish}
use Rattle.bench.specs.declared.Request.{Request}
use Rattle.bench.specs.declared.Request.TheVariants.{Release}

-- A quantity is of a kind. (Where it is of another, this can't be said at all.)
abbrev pub Is : (kind : Type 0) → kind → Type 0
Is kind quantity = (one : kind) × (quantity ≡ one)

-- Release and finish are points on the bench's clock.
pub record Instants : Type 0 where
  pub clock : (b : Bench) → Is Instant b.now
  pub release : (instant : Instant) → Is (Option Instant) (Some instant)
  pub last_release : (state : RowState) → Is (Option Instant) state.last

-- C, D, T, windows and bounds are lengths; so are a demand, what remains of it, and a response.
pub record Lengths : Type 0 where
  pub row : (row : Row) → Is Ticks row.c × Is Ticks row.d × Is Ticks row.t
  pub bounds : (answer : Analysis) → Is (List Ticks) answer.bounds
  pub bounds_told : (told : Told) → Is (List Ticks) told.bounds
  pub demand : (place : ℕ) (demand : Ticks) → Is Request (Release place demand)
  pub state : (state : RowState) → Is Ticks state.demand × Is Ticks state.left
  pub response : (poll : Finish) → Is Ticks poll.response

-- Microseconds on a sheet are a third kind.
pub record Microseconds : Type 0 where
  pub board : (cores : ℕ) (tick : Micros) → Is Record (Board cores tick)
  pub times : (fields : RowFields) → Is Micros fields.c × Is Micros fields.d × Is Micros fields.t
  pub tick_length : (sheet : Sheet) → Is Micros sheet.tick

-- Instants and lengths of time are kept apart.
pub record KeptApart : Type 0 where
  pub instants : Instants
  pub lengths : Lengths
  pub microseconds : Microseconds
