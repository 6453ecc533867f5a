-- Laws of a record: what stands on a part, by its kind byte and its length.
use Prim.Native.Nat.{ℕ, suc, ◌≤◌, ◌<◌}
use native.Mathlib.Omega.{arith}
use mathlib.Core.Path.{◌≡◌, refl, sym, ap, ◌∙◌}
use mathlib.Core.Bool.{Bool, true, false, cond}
use mathlib.Core.List.{List, [], ◌∷◌}
use lib.Dec.{eqb, ltb}
use lib.ListN.{length, get_or}
use native.Mathlib.Decide.{ℕ_discrete, dec_le}
use borrow.Author.Tests.{eq-eqb, ne_eqb, lt-ltb, le-ltb, eqb-true}
use Rattle.laws.proofs.Tests.{not_one}
use Rattle.records.specs.Records.{board_kind, row_kind, end_kind, board_length, row_length, end_length, longest_record}
use Rattle.records.specs.Records.{record_length, is_row_kind, kind_on, size_on, cores_on, tick_on, count_on}
use Rattle.records.specs.Records.{row_fields, kind_number, kind_of, whole_record, record_on}
use Rattle.std.specs.Prelude.{Some, None, slice_get}
use Rattle.records.specs.Bytes.{field}
use Rattle.records.proofs.Bytes.{field_one}
use Rattle.records.specs.declared.Kind.{Kind}
use Rattle.records.specs.declared.Kind.TheVariants as kinds
use Rattle.records.specs.declared.Record.{Record}
use Rattle.records.specs.declared.Record.TheVariants.{Missing, Unknown, Cut, Board, Row, End}

-- The lengths that the kinds fix.
pub length_board : record_length board_kind ≡ board_length
unfolding record_length
length_board = refl

pub length_row : record_length row_kind ≡ row_length
unfolding record_length
length_row = refl

pub length_end : record_length end_kind ≡ end_length
unfolding record_length
length_end = refl

pub size_board : (part : List ℕ) → kind_on part ≡ board_kind → size_on part ≡ board_length
size_board part kind = omega (arith, ap record_length kind, length_board)

pub size_end : (part : List ℕ) → kind_on part ≡ end_kind → size_on part ≡ end_length
size_end part kind = omega (arith, ap record_length kind, length_end)

-- no record is longer than this
pub length_most : (kind : ℕ) → record_length kind ≤ longest_record
unfolding record_length
length_most kind = go (eqb kind board_kind) (eqb kind row_kind) (eqb kind end_kind)
  where
    go : (a b c : Bool) → cond a board_length (cond b row_length (cond c end_length 0)) ≤ longest_record
    go true b c = omega arith
    go false true c = omega arith
    go false false true = omega arith
    go false false false = omega arith

-- Row records: their kind, and their length.
pub row_kind_lem : (kind : ℕ) → is_row_kind kind ≡ true → kind ≡ row_kind
unfolding is_row_kind
row_kind_lem kind is = eqb-true kind row_kind is

pub is_row_kind_lem : (kind : ℕ) → kind ≡ row_kind → is_row_kind kind ≡ true
unfolding is_row_kind
is_row_kind_lem kind e = eq-eqb kind row_kind e

pub row_no_board : (kind : ℕ) → is_row_kind kind ≡ true → kind ≡ board_kind → ⊥
row_no_board kind is e = omega (arith, row_kind_lem kind is)

pub row_length_lem : (kind : ℕ) → is_row_kind kind ≡ true → record_length kind ≡ row_length
row_length_lem kind is = ap record_length (row_kind_lem kind is) ∙ length_row

-- a row record has a byte or more
pub row_some : (kind : ℕ) → is_row_kind kind ≡ true → 0 < record_length kind
row_some kind is = omega (arith, row_length_lem kind is)

-- a kind that some record has, and that is neither a board's nor a row's, is an end's
pub other_is_end : (kind : ℕ) → (kind ≡ board_kind → ⊥) → (kind ≡ row_kind → ⊥) → (record_length kind ≡ 0 → ⊥) → kind ≡ end_kind
unfolding record_length
other_is_end kind no_board no_row known = go (eqb kind end_kind) refl
  where
    go : (b : Bool) → eqb kind end_kind ≡ b → kind ≡ end_kind
    go true e = eqb-true kind end_kind e
    go false e = absurd (known (simp (ne_eqb kind board_kind no_board, ne_eqb kind row_kind no_row, e)))

pub other_length : (kind : ℕ) → (kind ≡ board_kind → ⊥) → (kind ≡ row_kind → ⊥) → (record_length kind ≡ 0 → ⊥)
    → record_length kind ≡ end_length
other_length kind no_board no_row known = ap record_length (other_is_end kind no_board no_row known) ∙ length_end

-- What stands on a part, by the first test that decides.
module _ (part : List ℕ) where
  pub on_nothing : length part ≡ 0 → record_on part ≡ Missing
  unfolding record_on
  on_nothing = at part
    where
      at : (some : List ℕ) → length some ≡ 0 → record_on some ≡ Missing
      at [] e = refl
      at (kind ∷ body) e = absurd (omega arith)

  pub on_unknown : 0 < length part → record_length (get_or part 0 0) ≡ 0 → record_on part ≡ Unknown
  unfolding record_on
  on_unknown = at part
    where
      at : (some : List ℕ) → 0 < length some → record_length (get_or some 0 0) ≡ 0 → record_on some ≡ Unknown
      at [] h e = absurd (omega arith)
      at (kind ∷ body) h e = simp (eq-eqb (record_length kind) 0 e)

  pub on_cut : 0 < length part → (record_length (get_or part 0 0) ≡ 0 → ⊥) → length part < record_length (get_or part 0 0)
      → record_on part ≡ Cut (get_or part 0 0)
  unfolding record_on
  on_cut = at part
    where
      at : (some : List ℕ) → 0 < length some → (record_length (get_or some 0 0) ≡ 0 → ⊥) → length some < record_length (get_or some 0 0)
          → record_on some ≡ Cut (get_or some 0 0)
      at [] h known short = absurd (omega arith)
      at (kind ∷ body) h known short =
          simp (ne_eqb (record_length kind) 0 known, lt-ltb (suc (length body)) (record_length kind) short)

  pub on_whole : 0 < length part → (record_length (get_or part 0 0) ≡ 0 → ⊥) → record_length (get_or part 0 0) ≤ length part
      → record_on part ≡ whole_record (get_or part 0 0) part
  unfolding record_on
  on_whole = at part
    where
      at : (some : List ℕ) → 0 < length some → (record_length (get_or some 0 0) ≡ 0 → ⊥) → record_length (get_or some 0 0) ≤ length some
          → record_on some ≡ whole_record (get_or some 0 0) some
      at [] h known long = absurd (omega arith)
      at (kind ∷ body) h known long =
          simp (ne_eqb (record_length kind) 0 known, le-ltb (suc (length body)) (record_length kind) long)

-- the kind that a byte stands for has this byte
pub number_of_kind : (byte : ℕ) → 0 < record_length byte → kind_number (kind_of byte) ≡ byte
unfolding record_length kind_of
number_of_kind byte some =
    elim (ℕ_discrete byte board_kind) [
      | yes b ↦ rw b refl
      | no no_board ↦
          elim (ℕ_discrete byte row_kind) [
            | yes r ↦ rw r refl
            | no no_row ↦
                let e = other_is_end byte no_board no_row (omega arith) in
                rw e refl
          ]
    ]

-- a record cut short is of the kind that its first byte stands for
pub cut_of_kind : (part : List ℕ) → 0 < length part → (record_length (get_or part 0 0) ≡ 0 → ⊥)
    → length part < record_length (get_or part 0 0) → record_on part ≡ Cut (kind_number (kind_of (get_or part 0 0)))
cut_of_kind part some known short =
    on_cut part some known short ∙ ap Cut (sym (number_of_kind (get_or part 0 0) (omega arith)))

-- What stands on a part, by its first byte.
pub on_none : (part : List ℕ) → slice_get part 0 ≡ None → record_on part ≡ Missing
unfolding record_on
on_none [] e = refl
on_none (byte ∷ body) e = cc

pub on_no_kind : (part : List ℕ) (byte : ℕ) → slice_get part 0 ≡ Some byte → record_length byte ≡ 0 → record_on part ≡ Unknown
unfolding record_on
on_no_kind [] byte e none = cc
on_no_kind (first ∷ body) byte e none =
    let same : first ≡ byte = cc in
    on_unknown (first ∷ body) (omega arith) (ap record_length same ∙ none)

kind_first : (kind : Kind) (body : List ℕ)
    → record_on (kind_number kind ∷ body)
    ≡ cond
    (ltb (suc (length body)) (record_length (kind_number kind)))
    (Cut (kind_number kind))
    (whole_record (kind_number kind) (kind_number kind ∷ body))
unfolding record_on record_length
kind_first kinds.Board body = refl
kind_first kinds.Row body = refl
kind_first kinds.End body = refl

on_kind : (part : List ℕ) (kind : Kind) → slice_get part 0 ≡ Some (kind_number kind)
    → record_on part
    ≡ cond (ltb (length part) (record_length (kind_number kind))) (Cut (kind_number kind)) (whole_record (kind_number kind) part)
on_kind [] kind e = cc
on_kind (first ∷ body) kind e =
    let same : first ≡ kind_number kind = cc in
    rw same (kind_first kind body)

pub on_short : (part : List ℕ) (kind : Kind) → slice_get part 0 ≡ Some (kind_number kind)
    → length part < record_length (kind_number kind) → record_on part ≡ Cut (kind_number kind)
on_short part kind e short = on_kind part kind e ∙ simp (lt-ltb _ _ short)

on_long : (part : List ℕ) (kind : Kind) → slice_get part 0 ≡ Some (kind_number kind)
    → record_length (kind_number kind) ≤ length part → record_on part ≡ whole_record (kind_number kind) part
on_long part kind e long = on_kind part kind e ∙ simp (le-ltb _ _ long)

pub size_none : (part : List ℕ) → slice_get part 0 ≡ None → size_on part ≡ 0
unfolding record_length
size_none [] e = refl
size_none (byte ∷ body) e = cc

-- A whole record by its kind.
module _ (kind : ℕ) (part : List ℕ) where
  pub whole_board : kind ≡ board_kind → whole_record kind part ≡ Board (cores_on part) (tick_on part)
  unfolding whole_record
  whole_board e = simp (eq-eqb kind board_kind e)

  pub whole_row : (kind ≡ board_kind → ⊥) → is_row_kind kind ≡ true → whole_record kind part ≡ Row (row_fields part)
  unfolding whole_record
  whole_row no_board is = simp (ne_eqb kind board_kind no_board, is)

  pub whole_end : (kind ≡ board_kind → ⊥) → (kind ≡ row_kind → ⊥) → whole_record kind part ≡ End (count_on part)
  unfolding whole_record is_row_kind
  whole_end no_board no_row = simp (ne_eqb kind board_kind no_board, ne_eqb kind row_kind no_row)

-- A whole record by the kind that its first byte stands for.
module _ (part : List ℕ) (kind : Kind) (first : slice_get part 0 ≡ Some (kind_number kind))
    (long : record_length (kind_number kind) ≤ length part) where
  pub long_board : kind ≡ kinds.Board → record_on part ≡ Board (get_or part 1 0) (record { 0 = field 2 2 part })
  unfolding record_length
  long_board e =
      let four : 4 ≤ length part = rw e at long in
      on_long part kind first long ∙ rw (e, whole_board board_kind part refl, field_one part 1 (omega arith))

  pub long_row : kind ≡ kinds.Row → record_on part ≡ Row (row_fields part)
  unfolding is_row_kind
  long_row e = on_long part kind first long ∙ rw (e, whole_row row_kind part (λ b. omega arith) refl)

  pub long_end : kind ≡ kinds.End → record_on part ≡ End (get_or part 1 0)
  unfolding record_length
  long_end e =
      let two : 2 ≤ length part = rw e at long in
      on_long part kind first long
      ∙ rw (e, whole_end end_kind part (λ b. omega arith) (λ r. omega arith), field_one part 1 (omega arith))

-- What can stand on a part, with what that says of the part.
pub data Found (part : List ℕ) : Record → Type 0 where
  nothing : length part ≡ 0 → Found part Missing
  unknown : 0 < length part → record_length (get_or part 0 0) ≡ 0 → Found part Unknown
  cut : 0 < length part → length part < record_length (get_or part 0 0) → Found part (Cut (get_or part 0 0))
  board : kind_on part ≡ board_kind → board_length ≤ length part → Found part (Board (cores_on part) (tick_on part))
  row : is_row_kind (kind_on part) ≡ true → size_on part ≤ length part → Found part (Row (row_fields part))
  end : kind_on part ≡ end_kind → end_length ≤ length part → Found part (End (count_on part))

whole_found : (part : List ℕ) → (record_length (get_or part 0 0) ≡ 0 → ⊥) → record_length (get_or part 0 0) ≤ length part
    → Found part (whole_record (get_or part 0 0) part)
whole_found part known long =
    elim (ℕ_discrete (get_or part 0 0) board_kind) [
      | yes b ↦ rw (whole_board (get_or part 0 0) part b) (board b (omega (arith, ap record_length b, length_board)))
      | no no_board ↦
          elim (ℕ_discrete (get_or part 0 0) row_kind) [
            | yes r ↦
                let is = is_row_kind_lem (get_or part 0 0) r in
                rw (whole_row (get_or part 0 0) part no_board is) (row is long)
            | no no_row ↦
                rw
                (whole_end (get_or part 0 0) part no_board no_row)
                (end (other_is_end (get_or part 0 0) no_board no_row known) (omega (arith, other_length (get_or part 0 0) no_board no_row known)))
          ]
    ]

pub found : (part : List ℕ) → Found part (record_on part)
found part =
    elim (ℕ_discrete (length part) 0) [
      | yes none ↦ rw (on_nothing part none) (nothing none)
      | no some ↦
          elim (ℕ_discrete (record_length (get_or part 0 0)) 0) [
            | yes none ↦ rw (on_unknown part (omega arith) none) (unknown (omega arith) none)
            | no known ↦
                elim (dec_le (record_length (get_or part 0 0)) (length part)) [
                  | no short ↦ rw (on_cut part (omega arith) known (omega arith)) (cut (omega arith) (omega arith))
                  | yes long ↦ rw (on_whole part (omega arith) known long) (whole_found part known long)
                ]
          ]
    ]

-- nothing stands only on a part with no byte
pub missing_empty : (part : List ℕ) → record_on part ≡ Missing → length part ≡ 0
missing_empty part e = go (record_on part) (found part) e
  where
    go : (one : Record) → Found part one → one ≡ Missing → length part ≡ 0
    go one (nothing none) e = none
    go one (unknown some none) e = absurd (not_one cc)
    go one (cut some short) e = absurd (not_one cc)
    go one (board kind long) e = absurd (not_one cc)
    go one (row kind long) e = absurd (not_one cc)
    go one (end kind long) e = absurd (not_one cc)
