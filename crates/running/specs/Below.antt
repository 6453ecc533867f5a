-- Rows below make no difference: neither to a row's bound nor to what the row does on a running board.
use Rattle.std.specs.Prelude.{ℕ, ◌≤◌, ◌≡◌, List, length, take}
use Rattle.std.proofs.Math.Option.{some}
use Rattle.quantities.specs.declared.Table.{Table}
use Rattle.quantities.specs.Table.{rows_of}
use Rattle.windows.specs.Answer.{judged}
use Rattle.windows.specs.Judgement.{SameDownTo}
use Rattle.bench.specs.declared.Bench.{Bench}
use Rattle.bench.specs.Step.{opened}
use Rattle.bench.specs.History.{Call, calls_to, SameRun}

-- Two benches that were opened for as many cores, for tables that have the same rows down to place k.
pub record SameRows (k cores : ℕ) (table table' : Table) (start start' : Bench) : Type 0 where
  pub opened_first : opened cores table ≡ some start
  pub opened_second : opened cores table' ≡ some start'
  pub tall_first : k ≤ length (rows_of table)
  pub tall_second : k ≤ length (rows_of table')
  pub rows : take k (rows_of table) ≡ take k (rows_of table')

-- Down to place k the answers are the same, bounds and the place named, and so are histories with the same ticks and
-- releases there.
abbrev pub RowsBelow : Type 0
RowsBelow =
    (k cores : ℕ) (table table' : Table) (start start' : Bench) → SameRows k cores table table' start start'
    → SameDownTo k (judged cores (rows_of table)) (judged cores (rows_of table'))
    × ((calls calls' : List Call) → calls_to k calls ≡ calls_to k calls' → SameRun k start start' calls calls')
