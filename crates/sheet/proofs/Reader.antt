-- Laws of the reader: one record, and how far a record that nothing is wrong with reaches.
use Prim.Native.Nat.{ℕ, suc, ◌+◌, ◌-◌, ◌≤◌, ◌<◌}
use native.Mathlib.Nat.{zero-add}
use native.Mathlib.Omega.{arith}
use mathlib.Core.Path.{◌≡◌, refl, sym, ap, ◌∙◌}
use mathlib.Core.Bool.{Bool, true, false, ◌&&◌}
use mathlib.Core.List.{List}
use lib.ListN.{length, get_or, drop, length-drop}
use lib.Dec.{ltb}
use lib.Seq.{drop-drop}
use borrow.Author.Tests.{lt-ltb, le-ltb, ltb-true, ltb-false}
use Rattle.laws.proofs.Tests.{not_one}
use Rattle.records.specs.Records.{end_length, kind_on, record_on, size_on, is_end}
use Rattle.records.specs.declared.Record.{Record}
use Rattle.records.proofs.Records.{Found, nothing, unknown, cut, board, row, end, found, row_some, size_board, size_end}
use Rattle.sheet.specs.Checks.{record_checks, own_checks, verdict_of}
use Rattle.sheet.specs.Reader.{new_reading, after_record, refused, whole}
use Rattle.sheet.specs.Reader.{unread, ended, first_from, first_sheet_of, closed, read_of}
use Rattle.entries.specs.declared.Sheet.{Sheet}
use Rattle.sheet.specs.declared.Reading.{Reading}
use Rattle.sheet.specs.declared.SheetFault.{SheetFault}
use Rattle.sheet.specs.Checks.{Verdict, fault}
use Rattle.std.specs.Prelude.{Ok, Err}
use Rattle.sheet.specs.declared.FirstSheet.{FirstSheet}
use Rattle.sheet.specs.declared.Outcome.{Outcome}
use Rattle.sheet.proofs.Checks.{closed_verdict, checks_closed, sound_not_refused, same_refusal}
use Rattle.sheet.proofs.Checks.{missing_not_sound, unknown_not_sound, cut_not_sound}

-- the verdict on the record that stands on a part
abbrev pub verdict_at : ℕ → Reading → List ℕ → Verdict
verdict_at at reading part = verdict_of (record_checks at (length part) reading (record_on part))

-- and on that record by itself
abbrev pub own_verdict : ℕ → Reading → List ℕ → Verdict
own_verdict at reading part = verdict_of (own_checks at reading (record_on part))

-- A record that nothing is wrong with has a byte or more, all of them on the sheet.
pub record Within (size left : ℕ) : Type 0 where
  pub some : 0 < size
  pub all : size ≤ left

pub sound_within : (at left : ℕ) (reading : Reading) (part : List ℕ) (r : Record) → Found part r
    → verdict_of (record_checks at left reading r) ≡ Ok tt → Within (size_on part) (length part)
sound_within at left reading part r (nothing e) s = absurd (missing_not_sound at left reading s)
sound_within at left reading part r (unknown h e) s = absurd (unknown_not_sound at left reading s)
sound_within at left reading part r (cut h short) s = absurd (cut_not_sound at left reading (get_or part 0 0) s)
sound_within at left reading part r (board e l) s =
    record { some = omega (arith, size_board part e); all = omega (arith, size_board part e) }
sound_within at left reading part r (row is l) s = record { some = row_some (kind_on part) is; all = l }
sound_within at left reading part r (end e l) s =
    record { some = omega (arith, size_end part e); all = omega (arith, size_end part e) }

-- One record for the first sheet: it is refused, it is the end, or the reading goes on after it.
module _ (limit : ℕ) (reading : Reading) (at : ℕ) (part : List ℕ) where
  pub first_refused : (number place : ℕ) → own_verdict at reading part ≡ Err (fault number place)
      → first_from (suc limit) reading at part ≡ unread number place
  unfolding first_from
  first_refused number place e = rw (e, first_from)

  pub first_ended : own_verdict at reading part ≡ Ok tt → is_end (record_on part) ≡ true
      → first_from (suc limit) reading at part ≡ ended reading.sheet (at + size_on part)
  unfolding first_from
  first_ended e last = rw (e, last, first_from)

  pub first_on : own_verdict at reading part ≡ Ok tt → is_end (record_on part) ≡ false
      → first_from (suc limit) reading at part
      ≡ first_from limit (after_record reading (record_on part)) (at + size_on part) (drop (size_on part) part)
  unfolding first_from
  first_on e last = rw (e, last, first_from)

-- the answer of a reading that stands at a place, with the part of the sheet from there on
unfoldable pub read_from : (limit : ℕ) → Reading → (at : ℕ) → List ℕ → Outcome
read_from limit reading at part = closed (at + length part) (first_from limit reading at part)

-- the answer of a reading that goes on behind the record on a part
abbrev pub behind : ℕ → Reading → ℕ → List ℕ → Outcome
behind limit reading at part =
    read_from limit (after_record reading (record_on part)) (at + size_on part) (drop (size_on part) part)

-- A first sheet that is refused; one that ends with the bytes, or before them.
closed_unread : (long number place : ℕ) → closed long (unread number place) ≡ refused number place
unfolding closed unread
closed_unread long number place = refl

closed_whole : (long : ℕ) (sheet : Sheet) (place : ℕ) → long ≤ place → closed long (ended sheet place) ≡ whole sheet
unfolding closed ended
closed_whole long sheet place h = rw (le-ltb place long h)

closed_more : (long : ℕ) (sheet : Sheet) (place : ℕ) → place < long → closed long (ended sheet place) ≡ refused 18 place
unfolding closed ended
closed_more long sheet place h = rw (lt-ltb place long h)

-- an end record takes its own length
end_size : (part : List ℕ) (one : Record) → Found part one → is_end one ≡ true → size_on part ≡ end_length
unfolding is_end
end_size part one (end kind long) last = size_end part kind
end_size part one (board kind long) last = absurd (not_one cc)
end_size part one (row is long) last = absurd (not_one cc)
end_size part one (cut h short) last = absurd (not_one cc)
end_size part one (unknown h e) last = absurd (not_one cc)
end_size part one (nothing e) last = absurd (not_one cc)

pub read_none : (reading : Reading) (at : ℕ) (part : List ℕ) → read_from 0 reading at part ≡ refused 11 at
unfolding read_from first_from
read_none reading at part = closed_unread (at + length part) 11 at

-- One record for the whole sheet, with the bytes behind an end record.
module _ (reading : Reading) (at : ℕ) (part : List ℕ) where
  -- the verdict with 18, by the record's own
  verdict_closed : (own : Verdict) → own_verdict at reading part ≡ own → (b more : Bool) → is_end (record_on part) ≡ b
      → ltb end_length (length part) ≡ more → verdict_at at reading part ≡ closed_verdict own (at + end_length) (b && more)
  verdict_closed own o b more last m = checks_closed at (length part) reading (record_on part) ∙ rw (o, last, m) refl

  pub own_sound : verdict_at at reading part ≡ Ok tt → own_verdict at reading part ≡ Ok tt
  unfolding closed_verdict
  own_sound e = go (own_verdict at reading part) refl
    where
      go : (own : Verdict) → own_verdict at reading part ≡ own → own_verdict at reading part ≡ Ok tt
      go (Ok _) o = o
      go (Err one) o =
          absurd (sound_not_refused one.number one.place (sym (verdict_closed (Err (fault one.number one.place)) o _ _ refl refl) ∙ e))

  module _ (limit : ℕ) where
    pub read_refused : (number place : ℕ) → verdict_at at reading part ≡ Err (fault number place)
        → read_from (suc limit) reading at part ≡ refused number place
    unfolding read_from closed_verdict
    read_refused number place e = by_own (own_verdict at reading part) refl
      where
        now : Outcome
        now = closed (at + length part) (first_from (suc limit) reading at part)

        same : (a b : ℕ) → verdict_at at reading part ≡ Err (fault a b) → refused a b ≡ refused number place
        same a b v =
            let (n, p) = same_refusal a b number place (sym v ∙ e) in
            rw (n, p)

        by_more : own_verdict at reading part ≡ Ok tt → is_end (record_on part) ≡ true → (more : Bool)
            → ltb end_length (length part) ≡ more → closed (at + length part) (first_from (suc limit) reading at part) ≡ refused number place
        by_more o last true m =
            let size = end_size part (record_on part) (found part) last in
            let long = ltb-true end_length (length part) m in
            ap (closed (at + length part)) (first_ended limit reading at part o last)
            ∙ closed_more (at + length part) reading.sheet (at + size_on part) (omega arith)
            ∙ rw size (same 18 (at + end_length) (verdict_closed (Ok tt) o true true last m))
        by_more o last false m =
            absurd (sound_not_refused number place (sym e ∙ verdict_closed (Ok tt) o true false last m))

        by_end : own_verdict at reading part ≡ Ok tt → (b : Bool) → is_end (record_on part) ≡ b
            → closed (at + length part) (first_from (suc limit) reading at part) ≡ refused number place
        by_end o true last = by_more o last (ltb end_length (length part)) refl
        by_end o false last =
            absurd (sound_not_refused number place (sym e ∙ verdict_closed (Ok tt) o false _ last refl))

        by_own : (own : Verdict) → own_verdict at reading part ≡ own
            → closed (at + length part) (first_from (suc limit) reading at part) ≡ refused number place
        by_own (Ok _) o = by_end o (is_end (record_on part)) refl
        by_own (Err one) o =
            ap (closed (at + length part)) (first_refused limit reading at part one.number one.place o)
            ∙ closed_unread (at + length part) one.number one.place
            ∙ same one.number one.place (verdict_closed (Err (fault one.number one.place)) o _ _ refl refl)

    pub read_whole : verdict_at at reading part ≡ Ok tt → is_end (record_on part) ≡ true
        → read_from (suc limit) reading at part ≡ whole reading.sheet
    unfolding read_from closed_verdict
    read_whole e last =
        ap (closed (at + length part)) (first_ended limit reading at part (own_sound e) last)
        ∙ closed_whole (at + length part) reading.sheet (at + size_on part)
        (omega (arith, end_size part (record_on part) (found part) last, none (ltb end_length (length part)) refl))
      where
        none : (more : Bool) → ltb end_length (length part) ≡ more → length part ≤ end_length
        none false m = ltb-false end_length (length part) m
        none true m =
            absurd (sound_not_refused 18 (at + end_length) (sym (verdict_closed (Ok tt) (own_sound e) true true last m) ∙ e))

    pub read_on : verdict_at at reading part ≡ Ok tt → is_end (record_on part) ≡ false
        → read_from (suc limit) reading at part ≡ behind limit reading at part
    unfolding read_from
    read_on e last =
        let w = sound_within at (length part) reading part (record_on part) (found part) e in
        let rest = length-drop (size_on part) part in
        let long : at + length part ≡ at + size_on part + length (drop (size_on part) part) = omega (arith, w.all) in
        ap (closed (at + length part)) (first_on limit reading at part (own_sound e) last)
        ∙ ap (λ (n : ℕ). closed n (first_from limit (after_record reading (record_on part)) (at + size_on part) (drop (size_on part) part))) long

-- A reading on its way through some bytes: it stands at a place, and what is read from there on is the first sheet.
pub record Reads (bytes : List ℕ) (reading : Reading) (at : ℕ) : Type 0 where
  pub within : at ≤ length bytes
  pub limit : ℕ
  pub enough : length bytes < at + limit
  pub same : first_from limit reading at (drop at bytes) ≡ first_sheet_of bytes

pub reads_new : (bytes : List ℕ) → Reads bytes new_reading 0
unfolding first_sheet_of
reads_new bytes = record { within = omega arith; limit = suc (length bytes); enough = omega arith; same = refl }

-- the answer of a sheet, from its first record on
pub read_of_lem : (bytes : List ℕ) → read_of bytes ≡ read_from (suc (length bytes)) new_reading 0 bytes
unfolding read_of read_from first_sheet_of
read_of_lem bytes = ap (λ (n : ℕ). closed n (first_from (suc (length bytes)) new_reading 0 bytes)) (sym (zero-add (length bytes)))

-- The answer of a sheet, by the first sheet on its bytes.
module _ (bytes : List ℕ) (first : FirstSheet) (is : first ≡ first_sheet_of bytes) where
  pub answer_refused : (why : SheetFault) → first.verdict ≡ Err why → refused why.number why.place ≡ read_of bytes
  unfolding read_of closed
  answer_refused why e =
      let here : closed (length bytes) first ≡ refused why.number why.place = rw (e, closed) refl in
      sym here ∙ ap (closed (length bytes)) is

  pub answer_more : first.verdict ≡ Ok tt → first.end < length bytes → refused 18 first.end ≡ read_of bytes
  unfolding read_of closed
  answer_more e h =
      let here : closed (length bytes) first ≡ refused 18 first.end =
      rw (e, closed, lt-ltb first.end (length bytes) h) refl in
      sym here ∙ ap (closed (length bytes)) is

  pub answer_whole : first.verdict ≡ Ok tt → length bytes ≤ first.end → whole first.sheet ≡ read_of bytes
  unfolding read_of closed
  answer_whole e h =
      let here : closed (length bytes) first ≡ whole first.sheet =
      rw (e, closed, le-ltb first.end (length bytes) h) refl in
      sym here ∙ ap (closed (length bytes)) is

-- One turn: the record that stands where the reading does.
module _ (bytes : List ℕ) (reading : Reading) (at : ℕ) (now : Reads bytes reading at) where
  more : now.limit ≡ suc (now.limit - 1)
  more = let w = now.within in omega (arith, now.enough)

  -- for the first sheet
  pub own_refused : (number place : ℕ) → own_verdict at reading (drop at bytes) ≡ Err (fault number place)
      → unread number place ≡ first_sheet_of bytes
  own_refused number place e =
      sym (first_refused (now.limit - 1) reading at (drop at bytes) number place e) ∙ (rw more at now.same)

  pub own_ended : own_verdict at reading (drop at bytes) ≡ Ok tt → is_end (record_on (drop at bytes)) ≡ true
      → ended reading.sheet (at + size_on (drop at bytes)) ≡ first_sheet_of bytes
  own_ended e last =
      sym (first_ended (now.limit - 1) reading at (drop at bytes) e last) ∙ (rw more at now.same)

  pub own_within : own_verdict at reading (drop at bytes) ≡ Ok tt → Within (size_on (drop at bytes)) (length bytes - at)
  own_within e =
      rw length-drop at (sound_within at end_length reading (drop at bytes) (record_on (drop at bytes)) (found (drop at bytes)) e)

  pub own_on : own_verdict at reading (drop at bytes) ≡ Ok tt → is_end (record_on (drop at bytes)) ≡ false
      → Reads bytes (after_record reading (record_on (drop at bytes))) (at + size_on (drop at bytes))
  own_on e last =
      let w = own_within e in
      let m = more in
      record {
        within = omega (arith, now.within);
        limit = now.limit - 1;
        enough = omega (arith, now.enough);
        same =
            rw
            (← drop-drop (size_on (drop at bytes)) at bytes)
            (sym (first_on (now.limit - 1) reading at (drop at bytes) e last) ∙ (rw more at now.same));
      }

  -- for the whole sheet
  answers : read_from (suc (now.limit - 1)) reading at (drop at bytes) ≡ read_of bytes
  unfolding read_from read_of
  answers =
      let long : at + length (drop at bytes) ≡ length bytes = omega (arith, now.within, length-drop at bytes) in
      ap (closed (at + length (drop at bytes))) (rw more at now.same) ∙ ap (λ (n : ℕ). closed n (first_sheet_of bytes)) long

  pub turn_refused : (number place : ℕ) → verdict_at at reading (drop at bytes) ≡ Err (fault number place)
      → refused number place ≡ read_of bytes
  turn_refused number place e = sym (read_refused reading at (drop at bytes) (now.limit - 1) number place e) ∙ answers

  pub turn_whole : verdict_at at reading (drop at bytes) ≡ Ok tt → is_end (record_on (drop at bytes)) ≡ true
      → whole reading.sheet ≡ read_of bytes
  turn_whole e last = sym (read_whole reading at (drop at bytes) (now.limit - 1) e last) ∙ answers

  pub turn_within : verdict_at at reading (drop at bytes) ≡ Ok tt
      → Within (size_on (drop at bytes)) (length bytes - at)
  turn_within e = own_within (own_sound reading at (drop at bytes) e)

  pub turn_on : verdict_at at reading (drop at bytes) ≡ Ok tt → is_end (record_on (drop at bytes)) ≡ false
      → Reads bytes (after_record reading (record_on (drop at bytes))) (at + size_on (drop at bytes))
  turn_on e last = own_on (own_sound reading at (drop at bytes) e) last
