-- Laws of the first sheet on some bytes: where it ends, and that the bytes behind it make no difference.
use Prim.Native.Nat.{ℕ, zero, suc, ◌+◌, ◌≤◌, ◌<◌}
use native.Mathlib.Omega.{arith}
use native.Mathlib.Decide.{dec_le}
use mathlib.Core.Path.{◌≡◌, refl, sym, ap, ◌∙◌}
use mathlib.Core.Logic.{◌⊎◌, inl, inr}
use mathlib.Core.Bool.{Bool, true, false}
use mathlib.Core.List.{List, [], ◌++◌, append-nil}
use lib.ListN.{length, take, drop, length-append, length-drop, length-take, take-append-drop}
use lib.Seq.{drop-append-le}
use Rattle.records.specs.Records.{record_on, size_on, is_end}
use Rattle.records.proofs.Records.{found}
use Rattle.records.proofs.Parts.{size_front, on_front}
use Rattle.records.specs.declared.Record.{Record}
use Rattle.sheet.specs.Checks.{own_checks, verdict_of}
use Rattle.sheet.specs.Reader.{after_record, new_reading, refused, whole, unread, ended}
use Rattle.sheet.specs.Reader.{first_from, first_sheet_of, read_of}
use Rattle.sheet.specs.declared.Reading.{Reading}
use Rattle.sheet.specs.Checks.{Verdict, fault}
use Rattle.std.specs.Prelude.{Ok, Err}
use Rattle.sheet.specs.declared.FirstSheet.{FirstSheet}
use Rattle.sheet.specs.declared.Outcome.{Outcome}
use Rattle.records.specs.Records.{end_length}
use Rattle.sheet.proofs.Checks.{sound_not_refused, same_refusal}
use Rattle.sheet.proofs.Reader.{own_verdict, Within, sound_within, first_refused, first_ended, first_on}
use Rattle.sheet.proofs.Reader.{answer_refused, answer_more, answer_whole}

-- in no record, no sheet is read
first_none : (reading : Reading) (at : ℕ) (part : List ℕ) → first_from 0 reading at part ≡ unread 11 at
unfolding first_from
first_none reading at part = refl

unread_not_sound : (first : FirstSheet) (number place : ℕ) → first ≡ unread number place → first.verdict ≡ Ok tt → ⊥
unfolding unread
unread_not_sound first number place is s =
    sound_not_refused number place (sym (ap (λ (f : FirstSheet). f.verdict) is) ∙ s)

sound_is : (first : FirstSheet) → first.verdict ≡ Ok tt → first ≡ ended first.sheet first.end
unfolding ended
sound_is first s = ap (λ (v : Verdict). record { verdict = v; sheet = first.sheet; end = first.end }) s

unread_by : (first : FirstSheet) (a b : ℕ) → first ≡ unread a b → (number place : ℕ)
    → first.verdict ≡ Err (fault number place) → first ≡ unread number place
unfolding unread
unread_by first a b is number place s =
    let (n, p) = same_refusal a b number place (sym (ap (λ (f : FirstSheet). f.verdict) is) ∙ s) in
    is ∙ rw (n, p)

-- where a sheet is read, nothing is wrong with its first record, which takes a byte or more
module _ (limit : ℕ) (reading : Reading) (at : ℕ) (part : List ℕ)
    (s : (first_from (suc limit) reading at part).verdict ≡ Ok tt) where
  record_sound : own_verdict at reading part ≡ Ok tt
  record_sound = go (own_verdict at reading part) refl
    where
      go : (own : Verdict) → own_verdict at reading part ≡ own → own_verdict at reading part ≡ Ok tt
      go (Ok _) o = o
      go (Err one) o =
          let refuses = first_refused limit reading at part one.number one.place o in
          absurd (unread_not_sound (first_from (suc limit) reading at part) one.number one.place refuses s)

  record_within : Within (size_on part) (length part)
  record_within = sound_within at end_length reading part (record_on part) (found part) record_sound

-- Where a sheet is read, it ends behind the place where the reading stands, and within the part.
record Ends (at left end : ℕ) : Type 0 where
  later : at ≤ end
  within : end ≤ at + left

first_ends : (limit : ℕ) (reading : Reading) (at : ℕ) (part : List ℕ) → (first_from limit reading at part).verdict ≡ Ok tt
    → Ends at (length part) (first_from limit reading at part).end
unfolding ended
first_ends zero reading at part s =
    absurd (unread_not_sound (first_from 0 reading at part) 11 at (first_none reading at part) s)
first_ends (suc limit) reading at part s =
    by_end
    (first_ends limit (after_record reading (record_on part)) (at + size_on part) (drop (size_on part) part))
    (is_end (record_on part))
    refl
  where
    next : FirstSheet
    next = first_from limit (after_record reading (record_on part)) (at + size_on part) (drop (size_on part) part)

    by_end : (next.verdict ≡ Ok tt → Ends (at + size_on part) (length (drop (size_on part) part)) next.end)
        → (b : Bool) → is_end (record_on part) ≡ b → Ends at (length part) (first_from (suc limit) reading at part).end
    by_end further true last =
        let w = record_within limit reading at part s in
        rw (first_ended limit reading at part (record_sound limit reading at part s) last)
        (record { later = omega arith; within = omega (arith, w.all) })
    by_end further false last =
        let w = record_within limit reading at part s in
        let on = first_on limit reading at part (record_sound limit reading at part s) last in
        let e = further (ap (λ (f : FirstSheet). f.verdict) (sym on) ∙ s) in
        let left = length-drop (size_on part) part in
        rw on (record { later = omega (arith, e.later); within = omega (arith, e.within, w.all) })

-- the record at the front of a part that goes on in two ways
module _ (front back rest : List ℕ) (some : 0 < size_on (front ++ back))
    (fits : size_on (front ++ back) ≤ length front) where
  size_same : size_on (front ++ rest) ≡ size_on (front ++ back)
  size_same = size_front front rest (omega arith) ∙ sym (size_front front back (omega arith))

  record_same : record_on (front ++ rest) ≡ record_on (front ++ back)
  record_same =
      let size = size_front front back (omega arith) in
      on_front front rest (omega arith) (omega arith) ∙ sym (on_front front back (omega arith) (omega arith))

-- The bytes up to the end of the first sheet settle it: others behind them give the same.
front_first : (limit other : ℕ) (reading : Reading) (at : ℕ) (front back rest : List ℕ)
    → (first_from limit reading at (front ++ back)).verdict ≡ Ok tt
    → (first_from limit reading at (front ++ back)).end ≡ at + length front → length front < other
    → first_from other reading at (front ++ rest) ≡ first_from limit reading at (front ++ back)
unfolding ended
front_first zero other reading at front back rest s ends h =
    absurd (unread_not_sound (first_from 0 reading at (front ++ back)) 11 at (first_none reading at (front ++ back)) s)
front_first (suc limit) zero reading at front back rest s ends h = absurd (omega arith)
front_first (suc limit) (suc other) reading at front back rest s ends h =
    by_end
    (front_first limit other (after_record reading one) (at + size) (drop size front) back rest)
    (is_end one)
    refl
  where
    one : Record
    one = record_on (front ++ back)

    size : ℕ
    size = size_on (front ++ back)

    Same : Type 0
    Same = first_from (suc other) reading at (front ++ rest) ≡ first_from (suc limit) reading at (front ++ back)

    next : FirstSheet
    next = first_from limit (after_record reading one) (at + size) (drop size front ++ back)

    Later : Type 0
    Later =
        next.verdict ≡ Ok tt → next.end ≡ at + size + length (drop size front) → length (drop size front) < other
        → first_from other (after_record reading one) (at + size) (drop size front ++ rest) ≡ next

    sound : own_verdict at reading (front ++ back) ≡ Ok tt
    sound = record_sound limit reading at (front ++ back) s

    some : 0 < size
    some = (record_within limit reading at (front ++ back) s).some

    -- nothing is wrong with the same record before other bytes
    sound_too : size ≤ length front → own_verdict at reading (front ++ rest) ≡ Ok tt
    sound_too fits =
        ap (λ (r : Record). verdict_of (own_checks at reading r)) (record_same front back rest some fits) ∙ sound

    by_end : Later → (b : Bool) → is_end one ≡ b → Same
    by_end later true last =
        let is = first_ended limit reading at (front ++ back) sound last in
        let fits : size ≤ length front = omega (arith, ends, ap (λ (f : FirstSheet). f.end) is) in
        let kind = ap is_end (record_same front back rest some fits) ∙ last in
        first_ended other reading at (front ++ rest) (sound_too fits) kind
        ∙ ap (λ (n : ℕ). ended reading.sheet (at + n)) (size_same front back rest some fits)
        ∙ sym is
    by_end later false last =
        let on = first_on limit reading at (front ++ back) sound last in
        let goes = ap (λ (f : FirstSheet). f.verdict) (sym on) ∙ s in
        let stop = ap (λ (f : FirstSheet). f.end) (sym on) ∙ ends in
        let e = first_ends limit (after_record reading one) (at + size) (drop size (front ++ back)) goes in
        let fits : size ≤ length front = omega (arith, e.later, stop) in
        let kind = ap is_end (record_same front back rest some fits) ∙ last in
        let split = drop-append-le size front back fits in
        let left = length-drop size front in
        let ih = later (rw split at goes) (rw split at stop ∙ omega (arith, left)) (omega (arith, left, some)) in
        first_on other reading at (front ++ rest) (sound_too fits) kind
        ∙ rw (
          record_same front back rest some fits,
          size_same front back rest some fits,
          drop-append-le size front rest fits,
        )
        ih
        ∙ sym (rw split at on)

-- where a sheet is refused, no sheet and no end stand with the refusal
first_unread : (limit : ℕ) (reading : Reading) (at : ℕ) (part : List ℕ) (number place : ℕ)
    → (first_from limit reading at part).verdict ≡ Err (fault number place)
    → first_from limit reading at part ≡ unread number place
unfolding unread ended
first_unread zero reading at part number place s =
    unread_by (first_from 0 reading at part) 11 at (first_none reading at part) number place s
first_unread (suc limit) reading at part number place s =
    by_own
    (first_unread limit (after_record reading (record_on part)) (at + size_on part) (drop (size_on part) part) number place)
    (own_verdict at reading part)
    refl
  where
    next : FirstSheet
    next = first_from limit (after_record reading (record_on part)) (at + size_on part) (drop (size_on part) part)

    Later : Type 0
    Later = next.verdict ≡ Err (fault number place) → next ≡ unread number place

    by_end : Later → own_verdict at reading part ≡ Ok tt → (b : Bool) → is_end (record_on part) ≡ b
        → first_from (suc limit) reading at part ≡ unread number place
    by_end later o true last =
        let is = first_ended limit reading at part o last in
        absurd (sound_not_refused number place (sym s ∙ ap (λ (f : FirstSheet). f.verdict) is))
    by_end later o false last =
        let on = first_on limit reading at part o last in
        on ∙ later (ap (λ (f : FirstSheet). f.verdict) (sym on) ∙ s)

    by_own : Later → (own : Verdict) → own_verdict at reading part ≡ own
        → first_from (suc limit) reading at part ≡ unread number place
    by_own later (Ok _) o = by_end later o (is_end (record_on part)) refl
    by_own later (Err one) o =
        unread_by (first_from (suc limit) reading at part) one.number one.place (first_refused limit reading at part one.number one.place o) number place s

-- The first sheet of all the bytes, with others behind its end.
module _ (front back rest : List ℕ) (s : (first_sheet_of (front ++ back)).verdict ≡ Ok tt)
    (ends : (first_sheet_of (front ++ back)).end ≡ length front) where
  pub first_of_front : first_sheet_of (front ++ rest) ≡ first_sheet_of (front ++ back)
  unfolding first_sheet_of
  first_of_front =
      front_first (suc (length (front ++ back))) (suc (length (front ++ rest))) new_reading 0 front back rest s
      (ends ∙ omega arith)
      (omega (arith, length-append front rest))

pub first_within : (bytes : List ℕ) → (first_sheet_of bytes).verdict ≡ Ok tt → (first_sheet_of bytes).end ≤ length bytes
unfolding first_sheet_of
first_within bytes s = omega (arith, (first_ends (suc (length bytes)) new_reading 0 bytes s).within)

pub first_refused_whole : (bytes : List ℕ) (number place : ℕ) → (first_sheet_of bytes).verdict ≡ Err (fault number place)
    → first_sheet_of bytes ≡ unread number place
unfolding first_sheet_of
first_refused_whole bytes number place s = first_unread (suc (length bytes)) new_reading 0 bytes number place s

-- the bytes up to the end of the first sheet, read as one sheet
pub first_alone : (bytes : List ℕ) → (first_sheet_of bytes).verdict ≡ Ok tt
    → read_of (take (first_sheet_of bytes).end bytes) ≡ whole (first_sheet_of bytes).sheet
first_alone bytes s =
    let end = (first_sheet_of bytes).end in
    let front = take end bytes in
    let split = take-append-drop end bytes in
    let long : length front ≡ end = omega (arith, length-take end bytes, first_within bytes s) in
    let same : first_sheet_of front ≡ first_sheet_of bytes =
    ap first_sheet_of (sym (append-nil front))
    ∙ first_of_front front (drop end bytes) [] (rw split s) (rw split (sym long))
    ∙ ap first_sheet_of split in
    sym (answer_whole front (first_sheet_of bytes) (sym same) s (omega (arith, long)))

-- where the first sheet is read and the bytes are whole, it ends with them
module _ (bytes : List ℕ) (s : (first_sheet_of bytes).verdict ≡ Ok tt) where
  pub first_more : (first_sheet_of bytes).end < length bytes → read_of bytes ≡ refused 18 (first_sheet_of bytes).end
  first_more h = sym (answer_more bytes (first_sheet_of bytes) refl s h)

  pub first_all : length bytes ≤ (first_sheet_of bytes).end → read_of bytes ≡ whole (first_sheet_of bytes).sheet
  first_all h = sym (answer_whole bytes (first_sheet_of bytes) refl s h)

-- The bytes as one sheet, by the first sheet on them.
pub data ByFirst (bytes : List ℕ) : Outcome → Type 0 where
  none_read : (number place : ℕ) → (first_sheet_of bytes).verdict ≡ Err (fault number place)
      → ByFirst bytes (refused number place)
  more_behind : (first_sheet_of bytes).verdict ≡ Ok tt → (first_sheet_of bytes).end < length bytes
      → ByFirst bytes (refused 18 (first_sheet_of bytes).end)
  all_read : (first_sheet_of bytes).verdict ≡ Ok tt → length bytes ≤ (first_sheet_of bytes).end
      → ByFirst bytes (whole (first_sheet_of bytes).sheet)

pub by_first : (bytes : List ℕ) → ByFirst bytes (read_of bytes)
by_first bytes = go (first_sheet_of bytes).verdict refl
  where
    go : (v : Verdict) → (first_sheet_of bytes).verdict ≡ v → ByFirst bytes (read_of bytes)
    go (Err one) s =
        rw (← answer_refused bytes (first_sheet_of bytes) refl one s) (none_read one.number one.place s)
    go (Ok _) s =
        elim (dec_le (length bytes) (first_sheet_of bytes).end) [
          | yes h ↦ rw (first_all bytes s h) (all_read s h)
          | no h ↦ rw (first_more bytes s (omega arith)) (more_behind s (omega arith))
        ]

pub refused_by_first : (bytes : List ℕ) (r : Outcome) → ByFirst bytes r → (number place : ℕ)
    → r.verdict ≡ Err (fault number place)
    → ((first_sheet_of bytes).verdict ≡ Err (fault number place))
    ⊎ (((first_sheet_of bytes).verdict ≡ Ok tt) × ((first_sheet_of bytes).end < length bytes)
    × (number ≡ 18) × (place ≡ (first_sheet_of bytes).end))
unfolding refused whole
refused_by_first bytes r (none_read a b s) number place e = inl (s ∙ e)
refused_by_first bytes r (more_behind s h) number place e =
    let (n, p) = same_refusal number place 18 (first_sheet_of bytes).end (sym e) in
    inr (s, h, n, p)
refused_by_first bytes r (all_read s h) number place e = absurd (sound_not_refused number place (sym e))

-- A whole sheet is the first one on its bytes and any others behind them.
pub sound_first : (sheet rest : List ℕ) → (read_of sheet).verdict ≡ Ok tt
    → first_sheet_of (sheet ++ rest) ≡ ended (read_of sheet).sheet (length sheet)
unfolding refused whole ended
sound_first sheet rest e = go (read_of sheet) (by_first sheet) e
  where
    go : (r : Outcome) → ByFirst sheet r → r.verdict ≡ Ok tt
        → first_sheet_of (sheet ++ rest) ≡ ended r.sheet (length sheet)
    go r (none_read a b s) e = absurd (sound_not_refused a b e)
    go r (more_behind s h) e = absurd (sound_not_refused 18 (first_sheet_of sheet).end e)
    go r (all_read s h) e =
        let none = append-nil sheet in
        let ends : (first_sheet_of sheet).end ≡ length sheet = omega (arith, first_within sheet s) in
        let same : first_sheet_of (sheet ++ rest) ≡ first_sheet_of sheet =
        first_of_front sheet [] rest (rw none s) (rw none ends) ∙ ap first_sheet_of none in
        same ∙ sound_is (first_sheet_of sheet) s ∙ rw ends
