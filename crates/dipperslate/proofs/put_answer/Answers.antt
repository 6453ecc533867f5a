-- put_answer puts the whole text: print_answer does so in a buffer with room for it.
use borrow.Author.Rules.{rules}
use Rattle.text.proofs.Printed.{text_in_front}
use Rattle.dipperslate.proofs.put_answer.Goals as goal

pub returns : goal.returns
returns c =
    let printed = c.print_answer.ensures in
    ((printed.within, printed.part), (text_in_front _ c.args.out.now _ _ (search rules) printed).0)
