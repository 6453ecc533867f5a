-- print_answer puts the text at the buffer's front, or leaves a buffer with too little room.
use native.Mathlib.Omega.{arith}
use Rattle.text.proofs.Printed.{printed_nothing, printed}
use Rattle.text.proofs.print_answer.Goals as goal

pub returns-then-out-lt-TEXT_ROOM : goal.returns-then-out-lt-TEXT_ROOM
returns-then-out-lt-TEXT_ROOM c = printed_nothing c.args.sheet.now c.args.out.now (omega arith)

pub returns : goal.returns
returns c =
    let put = rw c.print_text.ensures.printed at c.put.ensures in
    printed c.args.sheet.now c.args.out.now _ _ (omega arith) put.puts (omega (arith, put.short))
