-- One turn of read_first, in the words of its calls: what stands on the part from the reading's place on.
use Prim.Native.Nat.{ℕ, ◌+◌, ◌-◌, ◌≤◌, ◌<◌}
use native.Mathlib.Omega.{arith}
use mathlib.Core.Path.{◌≡◌, sym, ap, ◌∙◌}
use mathlib.Core.Bool.{true, false}
use mathlib.Core.List.{List}
use lib.ListN.{length, take, drop, length-drop}
use lib.Seq.{take_all}
use Rattle.std.specs.Prelude.{Ok, Err}
use Rattle.records.specs.Records.{record_on, is_end, size_on}
use Rattle.records.specs.declared.Record.{Record}
use Rattle.sheet.specs.Checks.{Verdict, own_checks, verdict_of}
use Rattle.sheet.specs.Reader.{after_record, unread, ended, first_sheet_of}
use Rattle.sheet.specs.declared.Reading.{Reading}
use Rattle.sheet.specs.declared.SheetFault.{SheetFault}
use Rattle.sheet.proofs.Reader.{own_verdict, Reads, own_refused, own_ended, own_within, own_on}

-- the part of some bytes from a place on, as a range of them
abbrev pub part_from : List ℕ → ℕ → List ℕ
part_from bytes at = take (length bytes - at) (drop at bytes)

part_is : (bytes : List ℕ) (at : ℕ) → part_from bytes at ≡ drop at bytes
part_is bytes at = take_all (length bytes - at) (drop at bytes) (omega (arith, length-drop at bytes))

module _ (bytes : List ℕ) (reading : Reading) (at : ℕ) (now : Reads bytes reading at) (found : Record)
    (on_part : found ≡ record_on (part_from bytes at)) (verdict : Verdict)
    (judged : verdict ≡ verdict_of (own_checks at reading found)) where
  stands : found ≡ record_on (drop at bytes)
  stands = on_part ∙ ap record_on (part_is bytes at)

  own : own_verdict at reading (drop at bytes) ≡ verdict
  own = sym (judged ∙ ap (λ (r : Record). verdict_of (own_checks at reading r)) stands)

  pub turn_refuses : (why : SheetFault) → verdict ≡ Err why → unread why.number why.place ≡ first_sheet_of bytes
  turn_refuses why e = own_refused bytes reading at now why.number why.place (own ∙ e)

  module _ (sound : verdict ≡ Ok tt) (size : ℕ) (takes : size ≡ size_on (part_from bytes at)) where
    sized : size ≡ size_on (drop at bytes)
    sized = takes ∙ ap size_on (part_is bytes at)

    pub turn_some : 0 < size
    turn_some = let w = own_within bytes reading at now (own ∙ sound) in omega (arith, sized)

    pub turn_fits : at + size ≤ length bytes
    turn_fits = let w = own_within bytes reading at now (own ∙ sound) in omega (arith, now.within, sized)

    pub turn_ends : is_end found ≡ true → ended reading.sheet (at + size) ≡ first_sheet_of bytes
    turn_ends last =
        rw sized (own_ended bytes reading at now (own ∙ sound) (ap is_end (sym stands) ∙ last))

    pub turn_goes_on : is_end found ≡ false → Reads bytes (after_record reading found) (at + size)
    turn_goes_on last =
        rw (sized, stands) (own_on bytes reading at now (own ∙ sound) (ap is_end (sym stands) ∙ last))
