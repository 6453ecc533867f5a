-- analyse answers what the rules say of the table's rows: the fault that check finds, or what bounds_of finds.
use Prim.Native.Nat.{ℕ}
use mathlib.Core.Path.{◌≡◌, refl, sym, ap, ◌∙◌}
use mathlib.Core.List.{List, []}
use mathlib.Core.Option.{some}
use lib.ListN.{replicate}
use Rattle.quantities.specs.Limits.{row_capacity}
use Rattle.quantities.specs.Table.{rows_of}
use Rattle.quantities.specs.Checks.{list_fault}
use Rattle.quantities.specs.Lengths.{ticks, in_array}
use Rattle.quantities.specs.declared.Row.{Row}
use Rattle.quantities.specs.declared.Fault.{Fault}
use Rattle.quantities.proofs.Checks.{checked_ok, checked_err}
use Rattle.quantities.proofs.Sound.{sound_list_means}
use Rattle.quantities.proofs.Rows.{length_rows}
use Rattle.windows.specs.Bound.{bounds_below}
use Rattle.windows.specs.Answer.{judged, verdict}
use Rattle.windows.specs.declared.Answer.TheVariants.{Refused}
use Rattle.windows.proofs.Judgement.{judged_sound, judged_faulty}
use Rattle.analysis.specs.Analysis.{analysis_of}
use Rattle.analysis.proofs.analyse.Goals as goal

-- the answer to a faulty list, with nothing in the array
refused : (cores : ℕ) (rows : List Row) (fault : Fault) → list_fault cores rows ≡ some fault
    → record { answer = Refused fault; bounds = replicate row_capacity (ticks 0) } ≡ analysis_of (judged cores rows)
unfolding analysis_of in_array
refused cores rows fault e = rw (judged_faulty cores rows fault e) refl

pub bounds_of-requires : goal.bounds_of-requires
bounds_of-requires c =
    (sound_list_means c.args.cores (rows_of c.args.table)).0
    (checked_ok _ (sym c.check.ensures ∙ c.in-Ok.is))

pub returns-in-Err : goal.returns-in-Err
returns-in-Err c =
    let fault = c.in-Err.fault in
    refused c.args.cores (rows_of c.args.table) fault
    (checked_err _ fault (sym c.check.ensures ∙ c.in-Err.is))

pub returns-in-Ok : goal.returns-in-Ok
returns-in-Ok c =
    let rows = rows_of c.args.table in
    let sound =
    (sound_list_means c.args.cores rows).0
    (checked_ok _ (sym c.check.ensures ∙ c.in-Ok.is)) in
    c.bounds_of.ensures
    ∙ ap analysis_of (sym (judged_sound c.args.cores rows sound ∙ ap (λ n. verdict n (bounds_below c.args.cores [] rows)) (length_rows c.args.table)))
