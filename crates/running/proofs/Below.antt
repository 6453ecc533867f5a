-- Rows below make no difference: the law of the answer and the law of the bench, said together.
use Prim.Native.Nat.{ℕ}
use mathlib.Core.Path.{◌≡◌}
use Rattle.quantities.specs.declared.Table.{Table}
use Rattle.quantities.specs.Table.{rows_of}
use Rattle.quantities.specs.Checks.{SoundList}
use Rattle.quantities.proofs.Sound.{sound_list_means}
use Rattle.bench.specs.declared.Bench.{Bench}
use Rattle.bench.specs.Step.{opened}
use Rattle.bench.proofs.Kept.{opened_empty}
use mathlib.Core.Option.{some}
use Rattle.windows.proofs.Prefix as answer
use Rattle.bench.proofs.Below as bench
use Rattle.running.specs.Below.{RowsBelow}

-- a bench is opened only for a sound list
pub opened_sound : (cores : ℕ) (table : Table) (start : Bench) → opened cores table ≡ some start
    → SoundList cores (rows_of table)
opened_sound cores table start is =
    (sound_list_means cores (rows_of table)).0 (opened_empty cores table start is).0

pub rows_below : RowsBelow
rows_below k cores table table' start start' same =
    let sound = opened_sound cores table start same.opened_first in
    let sound' = opened_sound cores table' start' same.opened_second in (
      answer.rows_below cores k (rows_of table) (rows_of table') sound sound' same.rows,
      bench.rows_below k cores table table' start start' same.opened_first same.opened_second
          same.tall_first same.tall_second same.rows,
    )
