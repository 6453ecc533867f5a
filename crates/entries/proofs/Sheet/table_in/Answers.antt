-- Sheet::table_in answers the table of the sheet's rows in ticks of a length.
use mathlib.Core.Path.{sym, ◌∙◌}
use Rattle.std.proofs.lemmas.Iterator.{YieldsList-from_slice, YieldsList-from_take}
use Rattle.std.proofs.lemmas.Iterator.Consumers.{YieldsList-turn, YieldsList-end}
use Rattle.std.proofs.lemmas.List.{length_push}
use Rattle.entries.specs.Entries.{entries_of}
use Rattle.entries.proofs.Tables.{table_with_one, table_with_all}
use Rattle.entries.proofs.Sheet.table_in.Goals as goal

pub loop-entry-preserved : goal.loop-entry-preserved
unfolding entries_of
loop-entry-preserved c =
    let self = c.args.self in
    let l = c.loop-entry in
    let t = YieldsList-turn (YieldsList-from_take self.count (YieldsList-from_slice self.entries cc) cc) l.yielded _ l.yielded_by _ _ c.in-Some.entry c.in-Some.is c.next.ensures.steps in
    rw (c.with_row-table.ensures, c.row_in.ensures, length_push l.yielded c.in-Some.entry)
    (table_with_one c.args.tick l.table (entries_of self) _ _ t.0 t.1 ∙ l.invariant)

pub returns : goal.returns
unfolding entries_of
returns c =
    let self = c.args.self in
    let l = c.loop-entry in
    let t = YieldsList-end (YieldsList-from_take self.count (YieldsList-from_slice self.entries cc) cc) l.yielded _ l.yielded_by _ _ c.in-None.is c.next.ensures.steps in
    sym (table_with_all c.args.tick l.table (entries_of self) _ t.1) ∙ l.invariant
