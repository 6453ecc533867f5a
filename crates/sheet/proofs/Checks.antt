-- Laws of the checks of a record: which one decides.
use Prim.Native.Nat.{ℕ, ◌+◌, ◌≤◌, ◌<◌}
use native.Mathlib.Omega.{arith}
use mathlib.Core.Path.{◌≡◌, refl, sym, ap, ◌∙◌}
use mathlib.Core.Bool.{Bool, true, false, not, cond, ◌&&◌}
use mathlib.Core.List.{List, [], ◌∷◌}
use lib.Dec.{eqb, ltb}
use borrow.Author.Tests.{eq-eqb, ne_eqb, le-ltb, le-leb, lt-leb, eqb-true, eqb-false, leb-false, ltb-false, not-false}
use Rattle.laws.proofs.Tests.{or_false, not_one}
use Rattle.quantities.specs.Limits.{row_capacity}
use Rattle.laws.specs.Checks.{Check, first_failing}
use Rattle.quantities.specs.Paper.{Paper}
use Rattle.quantities.specs.Checks.{check}
use Rattle.quantities.specs.declared.Micros.{Micros}
use Rattle.records.specs.Records.{board_kind, row_kind, end_kind, end_length, is_end}
use Rattle.records.specs.declared.RowFields.{RowFields}
use Rattle.records.specs.declared.Record.{Record}
use Rattle.records.specs.declared.Record.TheVariants.{Missing, Unknown, Cut, Board, Row, End}
use Rattle.entries.specs.Entries.{entries_of, used}
use Rattle.sheet.specs.Checks.{top_priority, misplaced, board_checks, row_record_checks, end_checks, record_checks, own_checks, verdict_of}
use Rattle.entries.specs.declared.Sheet.{Sheet}
use Rattle.sheet.specs.declared.Reading.{Reading}
use Rattle.sheet.specs.declared.SheetFault.{SheetFault}
use Rattle.sheet.specs.Checks.{Verdict, fault}
use Rattle.std.specs.Prelude.{Ok, Err}

-- a verdict is not both
pub sound_not_refused : (number place : ℕ) → ◌≡◌ {A = Verdict} (Err (fault number place)) (Ok tt) → ⊥
sound_not_refused number place e = not_one cc

pub not_refused : (verdict : Verdict) → ((why : SheetFault) → verdict ≡ Err why → ⊥) → verdict ≡ Ok tt
not_refused (Ok _) other = refl
not_refused (Err why) other = absurd (other why refl)

-- A refusal's parts.
pub same_refusal : (a b number place : ℕ) → ◌≡◌ {A = Verdict} (Err (fault a b)) (Err (fault number place))
    → (a ≡ number) × (b ≡ place)
same_refusal a b number place e =
    let same : fault a b ≡ fault number place = cc in
    (ap (λ (one : SheetFault). one.number) same, ap (λ (one : SheetFault). one.place) same)

-- The first check decides where it fails, else those after it do.
module _ (number place : ℕ) (fails : Bool) (rest : List (Check Paper)) where
  pub verdict_fails : fails ≡ true → verdict_of (check number place fails ∷ rest) ≡ Err (fault number place)
  unfolding verdict_of first_failing
  verdict_fails e = rw e

  pub verdict_passes : fails ≡ false → verdict_of (check number place fails ∷ rest) ≡ verdict_of rest
  unfolding verdict_of first_failing
  verdict_passes e = rw e

-- A check by itself, and with others behind it.
module _ (one : Check Paper) (rest : List (Check Paper)) where
  pub verdict_stops : (why : SheetFault) → verdict_of (one ∷ []) ≡ Err why → verdict_of (one ∷ rest) ≡ Err why
  unfolding verdict_of first_failing
  verdict_stops why e = go one.fails refl
    where
      go : (b : Bool) → one.fails ≡ b → verdict_of (one ∷ rest) ≡ Err why
      go true f = rw f (rw f at e)
      go false f = absurd (not_one cc)

  pub verdict_goes_on : verdict_of (one ∷ []) ≡ Ok tt → verdict_of (one ∷ rest) ≡ verdict_of rest
  unfolding verdict_of first_failing
  verdict_goes_on e = go one.fails refl
    where
      go : (b : Bool) → one.fails ≡ b → verdict_of (one ∷ rest) ≡ verdict_of rest
      go true f = absurd (not_one cc)
      go false f = rw f refl

-- The verdict on what was found at a place.
module _ (at left : ℕ) (reading : Reading) where
  pub verdict_missing : verdict_of (record_checks at left reading Missing) ≡ Err (fault 11 at)
  unfolding record_checks
  verdict_missing = verdict_fails 11 at true [] refl

  pub verdict_unknown : verdict_of (record_checks at left reading Unknown) ≡ Err (fault 12 at)
  unfolding record_checks
  verdict_unknown = verdict_fails 12 at true [] refl

  module _ (kind : ℕ) where
    pub cut_misplaced : misplaced reading.begun kind ≡ true → verdict_of (record_checks at left reading (Cut kind)) ≡ Err (fault 13 at)
    unfolding record_checks
    cut_misplaced e = verdict_fails 13 at _ (check 11 at true ∷ []) e

    pub cut_placed : misplaced reading.begun kind ≡ false → verdict_of (record_checks at left reading (Cut kind)) ≡ Err (fault 11 at)
    unfolding record_checks
    cut_placed e = verdict_passes 13 at _ (check 11 at true ∷ []) e ∙ verdict_fails 11 at true [] refl

    pub cut_not_sound : verdict_of (record_checks at left reading (Cut kind)) ≡ Ok tt → ⊥
    cut_not_sound s = go (misplaced reading.begun kind) refl
      where
        go : (b : Bool) → misplaced reading.begun kind ≡ b → ⊥
        go true e = sound_not_refused 13 at (sym (cut_misplaced e) ∙ s)
        go false e = sound_not_refused 11 at (sym (cut_placed e) ∙ s)

  pub missing_not_sound : verdict_of (record_checks at left reading Missing) ≡ Ok tt → ⊥
  missing_not_sound s = sound_not_refused 11 at (sym verdict_missing ∙ s)

  pub unknown_not_sound : verdict_of (record_checks at left reading Unknown) ≡ Ok tt → ⊥
  unknown_not_sound s = sound_not_refused 12 at (sym verdict_unknown ∙ s)

  module _ (cores : ℕ) (tick : Micros) where
    pub board_misplaced : misplaced reading.begun board_kind ≡ true → verdict_of (record_checks at left reading (Board cores tick)) ≡ Err (fault 13 at)
    unfolding record_checks
    board_misplaced e = verdict_fails 13 at _ (board_checks at tick) e

    pub board_placed : misplaced reading.begun board_kind ≡ false
        → verdict_of (record_checks at left reading (Board cores tick)) ≡ verdict_of (board_checks at tick)
    unfolding record_checks
    board_placed e = verdict_passes 13 at _ (board_checks at tick) e

  module _ (fields : RowFields) where
    pub row_misplaced : misplaced reading.begun row_kind ≡ true → verdict_of (record_checks at left reading (Row fields)) ≡ Err (fault 13 at)
    unfolding record_checks
    row_misplaced e = verdict_fails 13 at _ (row_record_checks at reading.sheet fields.priority) e

    pub row_placed : misplaced reading.begun row_kind ≡ false
        → verdict_of (record_checks at left reading (Row fields)) ≡ verdict_of (row_record_checks at reading.sheet fields.priority)
    unfolding record_checks
    row_placed e = verdict_passes 13 at _ (row_record_checks at reading.sheet fields.priority) e

  module _ (count : ℕ) where
    pub end_misplaced : misplaced reading.begun end_kind ≡ true → verdict_of (record_checks at left reading (End count)) ≡ Err (fault 13 at)
    unfolding record_checks
    end_misplaced e = verdict_fails 13 at _ (end_checks at left reading.sheet count) e

    pub end_placed : misplaced reading.begun end_kind ≡ false
        → verdict_of (record_checks at left reading (End count)) ≡ verdict_of (end_checks at left reading.sheet count)
    unfolding record_checks
    end_placed e = verdict_passes 13 at _ (end_checks at left reading.sheet count) e

-- What a sound verdict says of the checks, and the checks of a sound verdict.
pub sound_first : (number place : ℕ) (fails : Bool) (rest : List (Check Paper)) → verdict_of (check number place fails ∷ rest) ≡ Ok tt
    → (fails ≡ false) × (verdict_of rest ≡ Ok tt)
sound_first number place fails rest s = go fails refl
  where
    go : (b : Bool) → fails ≡ b → (fails ≡ false) × (verdict_of rest ≡ Ok tt)
    go true e = absurd (sound_not_refused number place (sym (verdict_fails number place fails rest e) ∙ s))
    go false e = (e, sym (verdict_passes number place fails rest e) ∙ s)

-- a 33rd row record is refused by 14, whatever stands in its box
pub row_beyond : (at : ℕ) (sheet : Sheet) (priority : ℕ) → row_capacity ≤ sheet.count
    → verdict_of (row_record_checks at sheet priority) ≡ Err (fault 14 at)
unfolding row_record_checks
row_beyond at sheet priority full = verdict_fails 14 at _ _ (le-leb row_capacity sheet.count full)

-- a row record is sound exactly where there is room for it, its priority is 1 to 999, and no row has it
pub record SoundRow (sheet : Sheet) (priority : ℕ) : Type 0 where
  pub room : sheet.count < row_capacity
  pub filled : 0 < priority
  pub in_range : priority ≤ top_priority
  pub unused : used priority (entries_of sheet) ≡ false

pub row_sound : (at : ℕ) (sheet : Sheet) (priority : ℕ) → SoundRow sheet priority → verdict_of (row_record_checks at sheet priority) ≡ Ok tt
unfolding row_record_checks verdict_of first_failing
row_sound at sheet priority r =
    simp (lt-leb row_capacity sheet.count r.room, ne_eqb priority 0 (omega (arith, r.filled)), le-ltb top_priority priority r.in_range, r.unused)

pub sound_row : (at : ℕ) (sheet : Sheet) (priority : ℕ) → verdict_of (row_record_checks at sheet priority) ≡ Ok tt → SoundRow sheet priority
unfolding row_record_checks
sound_row at sheet priority s =
    let a = sound_first 14 at _ _ s in
    let b = sound_first 16 at _ _ a.1 in
    let c = sound_first 15 at _ _ b.1 in
    let n = or_false (eqb priority 0) (ltb top_priority priority) b.0 in
    let z = eqb-false priority 0 n.0 in
    record {
      room = leb-false row_capacity sheet.count a.0;
      filled = omega arith;
      in_range = ltb-false top_priority priority n.1;
      unused = c.0;
    }

-- an end record is sound exactly where it counts the rows and nothing stands after it
pub record SoundEnd (left : ℕ) (sheet : Sheet) (count : ℕ) : Type 0 where
  pub counted : count ≡ sheet.count
  pub last : left ≤ end_length

pub end_sound : (at left : ℕ) (sheet : Sheet) (count : ℕ) → SoundEnd left sheet count → verdict_of (end_checks at left sheet count) ≡ Ok tt
unfolding end_checks verdict_of first_failing
end_sound at left sheet count e =
    simp (eq-eqb count sheet.count e.counted, le-ltb end_length left e.last)

pub sound_end : (at left : ℕ) (sheet : Sheet) (count : ℕ) → verdict_of (end_checks at left sheet count) ≡ Ok tt → SoundEnd left sheet count
unfolding end_checks
sound_end at left sheet count s =
    let a = sound_first 17 at _ _ s in
    let b = sound_first 18 _ _ _ a.1 in
    record {
      counted = eqb-true count sheet.count (not-false (eqb count sheet.count) a.0);
      last = ltb-false end_length left b.0;
    }

-- a board record is sound exactly where its tick length is not 0
pub board_sound : (at : ℕ) (tick : Micros) → 0 < tick.0 → verdict_of (board_checks at tick) ≡ Ok tt
unfolding board_checks verdict_of first_failing
board_sound at tick h = simp (ne_eqb tick.0 0 (omega arith))

pub sound_board : (at : ℕ) (tick : Micros) → verdict_of (board_checks at tick) ≡ Ok tt → 0 < tick.0
unfolding board_checks
sound_board at tick s =
    let a = sound_first 19 at _ _ s in
    let z = eqb-false tick.0 0 a.0 in
    omega arith

-- A verdict by itself, and then whether more bytes stand behind the end record (18).
unfoldable pub closed_verdict : Verdict → ℕ → Bool → Verdict
closed_verdict (Err one) end more = Err (fault one.number one.place)
closed_verdict (Ok _) end more = cond more (Err (fault 18 end)) (Ok tt)

not_closed : (verdict : Verdict) (end : ℕ) → verdict ≡ closed_verdict verdict end false
unfolding closed_verdict
not_closed (Ok _) end = refl
not_closed (Err one) end = refl

-- 18 comes after all the others, and concerns the end record alone
pub checks_closed : (at left : ℕ) (reading : Reading) (one : Record)
    → verdict_of (record_checks at left reading one)
    ≡ closed_verdict (verdict_of (own_checks at reading one)) (at + end_length) (is_end one && ltb end_length left)
unfolding record_checks is_end end_checks verdict_of first_failing closed_verdict
checks_closed at left reading Missing = not_closed _ (at + end_length)
checks_closed at left reading Unknown = not_closed _ (at + end_length)
checks_closed at left reading (Cut kind) = not_closed _ (at + end_length)
checks_closed at left reading (Board cores tick) = not_closed _ (at + end_length)
checks_closed at left reading (Row fields) = not_closed _ (at + end_length)
checks_closed at left reading (End count) =
    go (misplaced reading.begun end_kind) (not (eqb count reading.sheet.count)) (ltb end_length left)
  where
    three : Bool → Bool → Bool → Verdict
    three a b c = verdict_of (check 13 at a ∷ check 17 at b ∷ check 18 (at + end_length) c ∷ [])

    go : (a b c : Bool) → three a b c ≡ closed_verdict (three a b false) (at + end_length) c
    go true b c = refl
    go false true c = refl
    go false false true = refl
    go false false false = refl
