-- put lays the text over the buffer, and its end is the next place.
-- Kept: alone, the check finds this too, but then it gives up on the body of edit whole_room_counted.
use native.Mathlib.Omega.{arith}
use mathlib.Core.Path.{◌≡◌, ap, ◌∙◌}
use lib.ListN.{length}
use Rattle.printing.proofs.Buffer.{part_laid}
use Rattle.printing.proofs.Page.put.Goals as goal

pub returns-clause-puts : goal.returns-clause-puts
returns-clause-puts g c =
    let same : c.as_slice-text.result.now ≡ c.args.self.now = c.as_slice-text.ensures.value ∙ c.self.view_is in
    let long = ap length same in
    record {
      fits = omega (arith, long, c.as_slice-text.ensures.fits, c.requires);
      lies = part_laid _ _ _ _ _ (c.copy_from_slice.ensures.after ∙ same) (omega (arith, long));
      ends = omega (arith, long);
    }
