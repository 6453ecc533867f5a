-- Each quantity is of the kind that specs/Quantities.antt names.
use mathlib.Core.Path.{refl}
use Rattle.rowpages.specs.Quantities.{KeptApart}

pub kept_apart : KeptApart
kept_apart =
    record {
      instants = record { clock = λ b. (_, refl); release = λ instant. (_, refl); last_release = λ state. (_, refl) };
      lengths =
          record {
            row = λ row. ((_, refl), (_, refl), (_, refl));
            bounds = λ answer. (_, refl);
            bounds_told = λ told. (_, refl);
            demand = λ place demand. (_, refl);
            state = λ state. ((_, refl), (_, refl));
            response = λ poll. (_, refl);
          };
      microseconds =
          record {
            board = λ cores tick. (_, refl);
            times = λ fields. ((_, refl), (_, refl), (_, refl));
            tick_length = λ sheet. (_, refl);
          };
    }
