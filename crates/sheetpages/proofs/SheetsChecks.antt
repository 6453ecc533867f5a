-- The checks of a sheet in bytes give the verdicts of the reader's own checks.
use Prim.Native.Nat.{ℕ, ◌+◌, ◌-◌, ◌≤◌, ◌<◌}
use native.Mathlib.Omega.{arith}
use native.Mathlib.Decide.{dec_le}
use native.Mathlib.Nat.{add-zero}
use mathlib.Core.Path.{◌≡◌, refl, sym, ap, ◌∙◌}
use mathlib.Core.Bool.{Bool, true, false, not, cond, ◌||◌}
use mathlib.Core.List.{List, [], ◌∷◌, ◌++◌}
use lib.Dec.{eqb, leb, ltb}
use lib.ListN.{length, get_or, drop, length-drop}
use lib.Seq.{get_or-drop}
use borrow.Author.Tests.{lt-ltb, le-ltb, le-leb, lt-leb}
use Rattle.laws.specs.Checks.{Check}
use Rattle.quantities.specs.Paper.{Paper}
use Rattle.quantities.specs.Checks.{check}
use Rattle.quantities.specs.declared.Micros.{Micros}
use Rattle.records.specs.Bytes.{field}
use Rattle.records.specs.Records.{record_length, cores_on, tick_on, count_on, row_fields, record_on}
use Rattle.records.specs.declared.Record.{Record}
use Rattle.records.specs.declared.Record.TheVariants.{Cut}
use Rattle.records.proofs.Bytes.{field_one, field_two, field_four}
use Rattle.records.proofs.Records.{Found, nothing, unknown, cut, board, row, end, found, row_kind_lem, row_length_lem}
use Rattle.entries.specs.Entries.{used, sheet_of}
use Rattle.sheet.specs.Checks.{misplaced, board_checks, row_record_checks, end_checks, record_checks, fault, verdict_of}
use Rattle.sheet.specs.Reader.{new_reading}
use Rattle.records.specs.declared.RowFields.{RowFields}
use Rattle.sheet.specs.declared.Reading.{Reading}
use Rattle.std.specs.Prelude.{Err}
use Rattle.sheet.proofs.Checks.{
  verdict_fails,
  verdict_passes,
  verdict_missing,
  verdict_unknown,
  cut_misplaced,
  cut_placed,
  board_misplaced,
  board_placed,
  row_misplaced,
  row_placed,
  end_misplaced,
  end_placed,
}
use Rattle.entries.proofs.Sheets.{entries_of_sheet, count_of_sheet}
use Rattle.sheet.proofs.Whole.{rows_at, rows_placed}
use Rattle.sheetpages.specs.Sheets.{
  byte,
  two_bytes,
  four_bytes,
  body_length,
  behind,
  tick_of,
  priority_at,
  used_before,
  common_order,
  board_order,
  row_record_order,
  end_order,
  later_order,
}

-- The bytes of the part of a sheet that begins at a place, as bytes of the sheet.
module _ (sheet : List ℕ) (at : ℕ) where
  pub kind_of_part : get_or (drop at sheet) 0 0 ≡ byte sheet at
  kind_of_part = get_or-drop at sheet 0 0 ∙ ap (byte sheet) (add-zero at)

  byte_of_part : (i place : ℕ) → at + i ≡ place → get_or (drop at sheet) i 0 ≡ byte sheet place
  byte_of_part i place e = get_or-drop at sheet i 0 ∙ ap (byte sheet) e

  pub one_of_part : (i place : ℕ) → at + i ≡ place → place + 1 ≤ length sheet
      → field i 1 (drop at sheet) ≡ byte sheet place
  one_of_part i place e h =
      field_one (drop at sheet) i (omega (arith, length-drop at sheet)) ∙ byte_of_part i place e

  pub two_of_part : (i place : ℕ) → at + i ≡ place → place + 2 ≤ length sheet
      → field i 2 (drop at sheet) ≡ two_bytes sheet place
  two_of_part i place e h =
      field_two (drop at sheet) i (omega (arith, length-drop at sheet))
      ∙ rw (byte_of_part i place e, byte_of_part (i + 1) (place + 1) (omega arith)) refl

  pub four_of_part : (i place : ℕ) → at + i ≡ place → place + 4 ≤ length sheet
      → field i 4 (drop at sheet) ≡ four_bytes sheet place
  four_of_part i place e h =
      field_four (drop at sheet) i (omega (arith, length-drop at sheet))
      ∙ rw
      (two_of_part i place e (omega arith), two_of_part (i + 2) (place + 2) (omega arith) (omega arith))
      refl

-- whether a byte is a kind of document 01
abbrev known : ℕ → Bool
known kind = eqb kind 1 || eqb kind 2 || eqb kind 3

-- The checks that each record begins with, by the first that fails; else those behind them decide.
module _ (sheet : List ℕ) (at : ℕ) (wrong : Bool) (rest : List (Check Paper)) where
  no_byte : length sheet ≤ at → verdict_of (common_order sheet at wrong ++ rest) ≡ Err (fault 11 (length sheet))
  no_byte h = verdict_fails 11 (length sheet) _ _ (le-leb (length sheet) at h)

  module _ (some : at < length sheet) where
    some_byte : (later : List (Check Paper))
        → verdict_of (check 11 (length sheet) (leb (length sheet) at) ∷ later) ≡ verdict_of later
    some_byte later = verdict_passes 11 (length sheet) _ later (lt-leb (length sheet) at some)

    no_kind : known (byte sheet at) ≡ false → verdict_of (common_order sheet at wrong ++ rest) ≡ Err (fault 12 at)
    no_kind e = some_byte _ ∙ verdict_fails 12 at _ _ (ap not e)

    module _ (is : known (byte sheet at) ≡ true) where
      a_kind : (later : List (Check Paper))
          → verdict_of (check 12 at (not (known (byte sheet at))) ∷ later) ≡ verdict_of later
      a_kind later = verdict_passes 12 at _ later (ap not is)

      out_of_place : wrong ≡ true → verdict_of (common_order sheet at wrong ++ rest) ≡ Err (fault 13 at)
      out_of_place e = some_byte _ ∙ a_kind _ ∙ verdict_fails 13 at _ _ e

      cut_short : wrong ≡ false → length sheet < at + 1 + body_length (byte sheet at)
          → verdict_of (common_order sheet at wrong ++ rest) ≡ Err (fault 11 at)
      cut_short e h =
          some_byte _ ∙ a_kind _ ∙ verdict_passes 13 at _ _ e
          ∙ verdict_fails 11 at _ _ (lt-ltb (length sheet) (at + 1 + body_length (byte sheet at)) h)

      complete : wrong ≡ false → at + 1 + body_length (byte sheet at) ≤ length sheet
          → verdict_of (common_order sheet at wrong ++ rest) ≡ verdict_of rest
      complete e h =
          some_byte _ ∙ a_kind _ ∙ verdict_passes 13 at _ _ e
          ∙ verdict_passes 11 at _ _ (le-ltb (length sheet) (at + 1 + body_length (byte sheet at)) h)

-- The kinds of document 01 and their lengths, as the records have them.
unknown_kind : (kind : ℕ) → record_length kind ≡ 0 → known kind ≡ false
unfolding record_length
unknown_kind kind = go (eqb kind 1) (eqb kind 2) (eqb kind 3)
  where
    go : (a b c : Bool) → ◌≡◌ {A = ℕ} (cond a 4 (cond b 17 (cond c 2 0))) 0 → (a || b || c) ≡ false
    go true b c e = absurd (omega arith)
    go false true c e = absurd (omega arith)
    go false false true e = absurd (omega arith)
    go false false false e = refl

-- a kind with a length
record OfLength (kind : ℕ) : Type 0 where
  is : known kind ≡ true
  takes : record_length kind ≡ 1 + body_length kind

of_length : (kind : ℕ) → 0 < record_length kind → OfLength kind
unfolding record_length
of_length kind some =
    let both = go (eqb kind 1) (eqb kind 2) (eqb kind 3) some in record { is = both.0; takes = both.1 }
  where
    go : (a b c : Bool) → 0 < cond a 4 (cond b 17 (cond c 2 0))
        → ((a || b || c) ≡ true)
        × ◌≡◌ {A = ℕ} (cond a 4 (cond b 17 (cond c 2 0))) (1 + cond a 3 (cond b 16 1))
    go true b c h = (refl, refl)
    go false true c h = (refl, refl)
    go false false true h = (refl, refl)
    go false false false h = absurd (omega arith)

-- A record that is cut short, where it may stand and where it may not.
cut_verdict : (sheet : List ℕ) (at left : ℕ) (reading : Reading) (wrong : Bool) (rest : List (Check Paper))
    → at < length sheet → length sheet < at + record_length (byte sheet at) → misplaced reading.begun (byte sheet at) ≡ wrong
    → verdict_of (common_order sheet at wrong ++ rest)
    ≡ verdict_of (record_checks at left reading (Cut (byte sheet at)))
cut_verdict sheet at left reading wrong rest some short = go wrong
  where
    kind : OfLength (byte sheet at)
    kind = of_length (byte sheet at) (omega arith)

    go : (b : Bool) → misplaced reading.begun (byte sheet at) ≡ b
        → verdict_of (common_order sheet at b ++ rest)
        ≡ verdict_of (record_checks at left reading (Cut (byte sheet at)))
    go true e =
        out_of_place sheet at true rest some kind.is refl
        ∙ sym (cut_misplaced at left reading (byte sheet at) e)
    go false e =
        cut_short sheet at false rest some kind.is refl (omega (arith, kind.takes))
        ∙ sym (cut_placed at left reading (byte sheet at) e)

-- The board record.
module _ (sheet : List ℕ) where
  tick_check : verdict_of (check 19 0 (eqb (tick_of sheet) 0) ∷ [])
      ≡ verdict_of (board_checks 0 (record { 0 = tick_of sheet }))
  unfolding board_checks
  tick_check = refl

  pub board_verdict : verdict_of (board_order sheet)
      ≡ verdict_of (record_checks 0 (length sheet) new_reading (record_on sheet))
  unfolding new_reading misplaced
  board_verdict = go (record_on sheet) (found sheet)
    where
      wrong : Bool
      wrong = not (eqb (byte sheet 0) 1)

      rest : List (Check Paper)
      rest = check 19 0 (eqb (tick_of sheet) 0) ∷ []

      go : (one : Record) → Found sheet one
          → verdict_of (board_order sheet) ≡ verdict_of (record_checks 0 (length sheet) new_reading one)
      go one (nothing none) =
          no_byte sheet 0 wrong rest (omega arith)
          ∙ ap (λ (place : ℕ). Err (fault 11 place)) none
          ∙ sym (verdict_missing 0 (length sheet) new_reading)
      go one (unknown some none) =
          no_kind sheet 0 wrong rest some (unknown_kind (byte sheet 0) none)
          ∙ sym (verdict_unknown 0 (length sheet) new_reading)
      go one (cut some short) =
          cut_verdict sheet 0 (length sheet) new_reading wrong rest some (omega arith) refl
      go one (board kind long) =
          let tick = field_two sheet 2 (omega arith) in
          complete sheet 0 wrong rest (omega arith) (rw kind refl) (rw kind refl) (rw kind (omega arith))
          ∙ tick_check
          ∙ rw (← tick) refl
          ∙ sym (board_placed 0 (length sheet) new_reading (cores_on sheet) (tick_on sheet) refl)
      go one (row is long) =
          let kind = row_kind_lem (byte sheet 0) is in
          let size = row_length_lem (byte sheet 0) is in
          out_of_place sheet 0 wrong rest (omega arith) (rw kind refl) (rw kind refl)
          ∙ sym (row_misplaced 0 (length sheet) new_reading (row_fields sheet) refl)
      go one (end kind long) =
          out_of_place sheet 0 wrong rest (omega arith) (rw kind refl) (rw kind refl)
          ∙ sym (end_misplaced 0 (length sheet) new_reading (count_on sheet) refl)

-- A later record, after this many rows that have given these entries.
module _ (sheet : List ℕ) (n cores : ℕ) (tick : Micros) (entries : List RowFields)
    (within : behind n ≤ length sheet) (counted : length entries ≡ n) (same : (p : ℕ) → used p entries ≡ used_before sheet n p) where
  abbrev part : List ℕ
  part = drop (behind n) sheet

  row_order_lem : behind n + 17 ≤ length sheet
      → row_record_order sheet n ≡ row_record_checks (behind n) (sheet_of cores tick entries) (row_fields part).priority
  unfolding row_record_checks row_fields
  row_order_lem h =
      let priority : field 3 2 part ≡ priority_at sheet (behind n) =
      two_of_part sheet (behind n) 3 (behind n + 3) refl (omega arith) in
      rw (
        priority,
        entries_of_sheet cores tick entries,
        same (priority_at sheet (behind n)),
        count_of_sheet cores tick entries,
        counted,
      )
      refl

  after_end : ltb (behind n + 2) (length sheet) ≡ ltb 2 (length part)
  after_end =
      elim (dec_le (length sheet) (behind n + 2)) [
        | yes h ↦
            le-ltb (behind n + 2) (length sheet) h
            ∙ sym (le-ltb 2 (length part) (omega (arith, length-drop (behind n) sheet)))
        | no h ↦
            lt-ltb (behind n + 2) (length sheet) (omega arith)
            ∙ sym (lt-ltb 2 (length part) (omega (arith, length-drop (behind n) sheet)))
      ]

  end_order_lem : behind n + 2 ≤ length sheet
      → end_order sheet n ≡ end_checks (behind n) (length part) (sheet_of cores tick entries) (count_on part)
  unfolding end_checks
  end_order_lem h =
      rw (
        one_of_part sheet (behind n) 1 (behind n + 1) refl (omega arith),
        count_of_sheet cores tick entries,
        counted,
        ← after_end,
      )
      refl

  pub later_verdict : verdict_of (later_order sheet n)
      ≡ verdict_of (record_checks (behind n) (length part) (rows_at cores tick entries) (record_on part))
  unfolding misplaced
  later_verdict = go (record_on part) (found part)
    where
      reading : Reading
      reading = rows_at cores tick entries

      wrong : Bool
      wrong = eqb (byte sheet (behind n)) 1

      rest : List (Check Paper)
      rest = cond (eqb (byte sheet (behind n)) 2) (row_record_order sheet n) (end_order sheet n)

      long_part : length part ≡ length sheet - behind n
      long_part = length-drop (behind n) sheet

      first : get_or part 0 0 ≡ byte sheet (behind n)
      first = kind_of_part sheet (behind n)

      go : (one : Record) → Found part one
          → verdict_of (later_order sheet n) ≡ verdict_of (record_checks (behind n) (length part) reading one)
      go one (nothing none) =
          no_byte sheet (behind n) wrong rest (omega (arith, long_part))
          ∙ ap (λ (place : ℕ). Err (fault 11 place)) (omega (arith, long_part))
          ∙ sym (verdict_missing (behind n) (length part) reading)
      go one (unknown some none) =
          no_kind sheet (behind n) wrong rest (omega (arith, long_part))
          (unknown_kind (byte sheet (behind n)) (ap record_length (sym first) ∙ none))
          ∙ sym (verdict_unknown (behind n) (length part) reading)
      go one (cut some short) =
          rw first
          (cut_verdict sheet (behind n) (length part) reading wrong rest (omega (arith, long_part))
          (omega (arith, long_part, ap record_length first)) refl)
      go one (board kind long) =
          let here : byte sheet (behind n) ≡ 1 = sym first ∙ kind in
          out_of_place sheet (behind n) wrong rest (omega (arith, long_part)) (rw here refl) (rw here refl)
          ∙ sym
          (board_misplaced (behind n) (length part) reading (cores_on part) (tick_on part) refl)
      go one (row is long) =
          let here : byte sheet (behind n) ≡ 2 = sym first ∙ row_kind_lem (get_or part 0 0) is in
          let size = row_length_lem (get_or part 0 0) is in
          complete sheet (behind n) wrong rest (omega (arith, long_part)) (rw here refl) (rw here refl)
          (rw here (omega (arith, long_part)))
          ∙ rw here (ap verdict_of (row_order_lem (omega (arith, long_part))))
          ∙ sym (row_placed (behind n) (length part) reading (row_fields part) rows_placed.0)
      go one (end kind long) =
          let here : byte sheet (behind n) ≡ 3 = sym first ∙ kind in
          complete sheet (behind n) wrong rest (omega (arith, long_part)) (rw here refl) (rw here refl)
          (rw here (omega (arith, long_part)))
          ∙ rw here (ap verdict_of (end_order_lem (omega (arith, long_part))))
          ∙ sym (end_placed (behind n) (length part) reading (count_on part) rows_placed.1)
