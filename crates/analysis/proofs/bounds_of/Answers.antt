-- bounds_of walks down the table; the bounds found so far are those of the rows above.
use Prim.Native.Nat.{ℕ, ◌<◌}
use native.Mathlib.Omega.{arith}
use native.Mathlib.Numerals.{add-one}
use mathlib.Core.Path.{sym, ap, ◌∙◌}
use mathlib.Core.List.{List}
use lib.ListN.{length}
use Rattle.quantities.specs.declared.Ticks.{Ticks}
use Rattle.windows.specs.Answer.{late_number}
use Rattle.windows.specs.declared.Answer.TheVariants.{NotShown}
use Rattle.analysis.specs.declared.Analysis.{Analysis}
use Rattle.quantities.specs.Table.{rows_of}
use Rattle.quantities.proofs.Rows.{length_rows}
use Rattle.quantities.proofs.SoundRows.{sound_row_at}
use Rattle.analysis.proofs.SoFar.{so_far_start, so_far_next, so_far_stop, so_far_all, found_some, found_none}
use Rattle.analysis.proofs.bounds_of.Goals as goal

-- the answer that names a place
abbrev named : ℕ → List Ticks → Analysis
named place bounds = record { answer = NotShown late_number place; bounds = bounds }

pub loop-k-init : goal.loop-k-init
loop-k-init c =
    so_far_start c.args.cores c.args.table (omega (arith, length_rows c.args.table))

pub bound_of-requires : goal.bound_of-requires
bound_of-requires c =
    let rows = rows_of c.args.table in
    let k = c.loop-k.k in
    let inside : k < length rows = omega (arith, length_rows c.args.table) in
    let sound = sound_row_at rows k inside c.requires.sound_rows in
    record { stands = omega arith; short_cost = omega arith; short_deadline = omega arith }

pub returns-in_default : goal.returns-in_default
returns-in_default c =
    let at = c.loop-k in
    let none = found_none _ (sym c.bound_of.ensures ∙ c.in_default.is) in
    ap (λ (place : ℕ). named place at.bounds) (add-one at.k)
    ∙ so_far_stop c.args.cores c.args.table at.bounds at.k at.invariant (omega arith) none

pub loop-k-preserved : goal.loop-k-preserved
loop-k-preserved c =
    let at = c.loop-k in
    let rows = rows_of c.args.table in
    let sound = sound_row_at rows at.k (omega (arith, length_rows c.args.table)) c.requires.sound_rows in
    let x = c.in-Some.bound in
    let some = found_some _ x (sym c.bound_of.ensures ∙ c.in-Some.is) in
    rw (add-one at.k) (so_far_next c.args.cores c.args.table at.bounds at.k at.invariant (omega arith) x.0 sound some)

pub returns : goal.returns
returns c =
    let at = c.loop-k in
    so_far_all c.args.cores c.args.table at.bounds at.k at.invariant (omega arith)
