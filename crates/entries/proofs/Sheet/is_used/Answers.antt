-- Sheet::is_used answers whether an entry has the priority.
use Rattle.std.proofs.Common.{rules, tests, eqb, sym, ◌∙◌}
use Rattle.std.proofs.lemmas.Iterator.{YieldsList-from_slice, YieldsList-from_take}
use Rattle.std.proofs.lemmas.Iterator.Search.{any_from_yields_List}
use Rattle.records.specs.declared.RowFields.{RowFields}
use Rattle.entries.specs.Entries.{entries_of}
use Rattle.entries.proofs.Entries.{used_is}
use Rattle.entries.proofs.Sheet.is_used.Goals as goal

pub returns : goal.returns
unfolding entries_of
returns c =
    let self = c.args.self in
    any_from_yields_List (λ (entry : RowFields). eqb entry.priority c.args.priority) _ _ c.any.result c.any.ensures.ran
    (YieldsList-from_take self.count (YieldsList-from_slice self.entries cc) cc)
    (λ x b q k. search (rules, tests))
    ∙ sym (used_is c.args.priority (entries_of self))
