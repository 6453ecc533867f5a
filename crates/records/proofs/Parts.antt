-- Laws of a record at the front of a part: what stands behind it makes no difference.
use Prim.Native.Nat.{ℕ, ◌+◌, ◌≤◌, ◌<◌}
use native.Mathlib.Omega.{arith}
use native.Mathlib.Decide.{dec_le}
use mathlib.Core.Path.{◌≡◌, sym, ap, ◌∙◌}
use mathlib.Core.Bool.{true}
use mathlib.Core.List.{List, ◌++◌}
use lib.ListN.{length, take, drop, length-append, length-drop, length-take, take-append-drop, get_or-append}
use lib.Seq.{drop-append-le, take-append-le, take_all, get_or-take}
use Rattle.records.specs.Bytes.{field}
use Rattle.records.specs.Records.{board_kind, end_kind, board_length, end_length, longest_record}
use Rattle.records.specs.Records.{record_length, is_row_kind, kind_on, size_on, cores_on, tick_on, count_on}
use Rattle.records.specs.Records.{row_fields, record_on, OneRecord, RowRecord}
use Rattle.records.specs.declared.Record.{Record}
use Rattle.records.specs.declared.Record.TheVariants.{Board, Row, End}
use Rattle.records.proofs.Records.{length_board, length_end, length_most, row_no_board, row_length_lem, row_some}
use Rattle.records.proofs.Records.{on_unknown, on_whole, whole_board, whole_row, whole_end}
use Rattle.records.proofs.Records.{Found, nothing, unknown, cut, board, row, end, found}

-- A whole record by its kind byte, where its bytes are there.
module _ (part : List ℕ) where
  pub on_board : kind_on part ≡ board_kind → board_length ≤ length part → record_on part ≡ Board (cores_on part) (tick_on part)
  on_board kind long =
      let l = ap record_length kind ∙ length_board in
      on_whole part (omega arith) (omega arith) (omega arith) ∙ whole_board (kind_on part) part kind

  pub on_row : is_row_kind (kind_on part) ≡ true → size_on part ≤ length part → record_on part ≡ Row (row_fields part)
  on_row is long =
      let some = row_some (kind_on part) is in
      on_whole part (omega arith) (omega arith) long ∙ whole_row (kind_on part) part (row_no_board (kind_on part) is) is

  pub on_end : kind_on part ≡ end_kind → end_length ≤ length part → record_on part ≡ End (count_on part)
  on_end kind long =
      let l = ap record_length kind ∙ length_end in
      on_whole part (omega arith) (omega arith) (omega arith)
      ∙ whole_end (kind_on part) part (omega arith) (omega arith)

-- A part with more bytes behind it.
module _ (part rest : List ℕ) where
  pub field_front : (at width : ℕ) → at + width ≤ length part → field at width (part ++ rest) ≡ field at width part
  unfolding field
  field_front at width h =
      let l : width ≤ length (drop at part) = omega (arith, length-drop at part) in
      rw (drop-append-le at part rest (omega arith), take-append-le width (drop at part) rest l)

  pub fields_front : is_row_kind (kind_on part) ≡ true → size_on part ≤ length part
      → row_fields (part ++ rest) ≡ row_fields part
  unfolding row_fields
  fields_front is h =
      let l = row_length_lem (kind_on part) is in
      rw (
        field_front 1 2 (omega arith),
        field_front 3 2 (omega arith),
        field_front 5 4 (omega arith),
        field_front 9 4 (omega arith),
        field_front 13 4 (omega arith),
      )

  pub kind_front : 0 < length part → kind_on (part ++ rest) ≡ kind_on part
  kind_front h = get_or-append part rest 0 0 h

  pub size_front : 0 < length part → size_on (part ++ rest) ≡ size_on part
  size_front h = ap record_length (kind_front h)

  long_front : length part ≤ length (part ++ rest)
  long_front = omega (arith, length-append part rest)

  pub board_front : OneRecord board_kind part → record_on (part ++ rest) ≡ Board (cores_on part) (tick_on part)
  board_front one =
      let l : length part ≡ board_length = one.in_full ∙ length_board in
      on_board (part ++ rest) (kind_front (omega arith) ∙ one.of_kind) (omega (arith, long_front))
      ∙ rw (field_front 1 1 (omega arith), field_front 2 2 (omega arith))

  -- a whole record is the same, whatever stands behind it
  pub on_front : 0 < size_on part → size_on part ≤ length part → record_on (part ++ rest) ≡ record_on part
  on_front some long = go (record_on part) (found part)
    where
      filled : 0 < length part
      filled = omega arith

      go : (one : Record) → Found part one → record_on (part ++ rest) ≡ one
      go one (nothing none) = absurd (omega arith)
      go one (unknown m none) = absurd (omega arith)
      go one (cut m short) = absurd (omega arith)
      go one (board kind enough) =
          on_board (part ++ rest) (kind_front filled ∙ kind) (omega (arith, long_front))
          ∙ rw (field_front 1 1 (omega arith), field_front 2 2 (omega arith))
      go one (row is enough) =
          let size = size_front filled in
          on_row (part ++ rest) (ap is_row_kind (kind_front filled) ∙ is) (omega (arith, long_front))
          ∙ ap Row (fields_front is enough)
      go one (end kind enough) =
          on_end (part ++ rest) (kind_front filled ∙ kind) (omega (arith, long_front))
          ∙ ap End (field_front 1 1 (omega arith))

pub end_alone : (part : List ℕ) → OneRecord end_kind part → record_on part ≡ End (count_on part)
end_alone part one =
    let l : length part ≡ end_length = one.in_full ∙ length_end in
    on_end part one.of_kind (omega arith)

-- The lengths of whole records.
module _ (part : List ℕ) where
  pub board_long : OneRecord board_kind part → length part ≡ board_length
  board_long one = one.in_full ∙ length_board

  pub end_long : OneRecord end_kind part → length part ≡ end_length
  end_long one = one.in_full ∙ length_end

  -- a row record has a byte or more, and is no longer than the longest
  pub record RowLong : Type 0 where
    pub some : 0 < length part
    pub most : length part ≤ longest_record

  pub row_long : RowRecord part → RowLong
  row_long one =
      record {
        some = omega (arith, one.in_full, row_some (kind_on part) one.is_row);
        most = omega (arith, one.in_full, length_most (kind_on part));
      }

-- The front of a part as a record of its own.
module _ (part : List ℕ) where
  front_kind : (size : ℕ) → 0 < size → kind_on (take size part) ≡ kind_on part
  front_kind size some = get_or-take size part 0 0 some

  front_field : (at width size : ℕ) → at + width ≤ size → size ≤ length part
      → field at width part ≡ field at width (take size part)
  front_field at width size h long =
      ap (field at width) (sym (take-append-drop size part))
      ∙ field_front (take size part) (drop size part) at width (omega (arith, length-take size part))

  pub front_board : kind_on part ≡ board_kind → board_length ≤ length part → OneRecord board_kind (take board_length part)
  front_board kind long =
      record {
        of_kind = front_kind board_length (omega arith) ∙ kind;
        in_full = omega (arith, length-take board_length part, length_board);
      }

  pub front_cores : board_length ≤ length part → cores_on part ≡ cores_on (take board_length part)
  front_cores long = front_field 1 1 board_length (omega arith) long

  pub front_tick : board_length ≤ length part → tick_on part ≡ tick_on (take board_length part)
  front_tick long = rw (front_field 2 2 board_length (omega arith) long)

  pub front_row : is_row_kind (kind_on part) ≡ true → size_on part ≤ length part → RowRecord (take (size_on part) part)
  front_row is long =
      let same = front_kind (size_on part) (row_some (kind_on part) is) in
      record {
        is_row = ap is_row_kind same ∙ is;
        in_full = omega (arith, length-take (size_on part) part, ap record_length same);
      }

  pub front_fields : is_row_kind (kind_on part) ≡ true → size_on part ≤ length part
      → row_fields part ≡ row_fields (take (size_on part) part)
  front_fields is long =
      let one = front_row is long in
      ap row_fields (sym (take-append-drop (size_on part) part))
      ∙ fields_front (take (size_on part) part) (drop (size_on part) part) one.is_row (omega (arith, one.in_full))

-- The record on a part is the one on its first bytes, where these are as many as the longest record has.
module _ (part : List ℕ) (k : ℕ) (h : longest_record ≤ k) where
  pub size_taken : size_on (take k part) ≡ size_on part
  size_taken = ap record_length (front_kind part k (omega arith))

  module _ (l : k < length part) where
    taken : length (take k part) ≡ k
    taken = omega (arith, length-take k part)

    kind_taken : kind_on (take k part) ≡ kind_on part
    kind_taken = front_kind part k (omega arith)

    field_taken : (at width : ℕ) → at + width ≤ longest_record → field at width (take k part) ≡ field at width part
    field_taken at width m = sym (front_field part at width k (omega arith) (omega arith))

    found_taken : (one : Record) → Found part one → record_on (take k part) ≡ one
    found_taken one (nothing e) = absurd (omega arith)
    found_taken one (unknown m e) = on_unknown (take k part) (omega (arith, taken)) (ap record_length kind_taken ∙ e)
    found_taken one (cut m short) = absurd (omega (arith, length_most (kind_on part)))
    found_taken one (board kind long) =
        on_board (take k part) (kind_taken ∙ kind) (omega (arith, taken))
        ∙ rw (field_taken 1 1 (omega arith), field_taken 2 2 (omega arith))
    found_taken one (row is long) =
        let size = size_taken in
        let most = length_most (kind_on part) in
        let same : is_row_kind (kind_on (take k part)) ≡ true = ap is_row_kind kind_taken ∙ is in
        let fits : size_on (take k part) ≤ length (take k part) = omega (arith, taken) in
        on_row (take k part) same fits
        ∙ ap Row (sym (fields_front (take k part) (drop k part) same fits) ∙ ap row_fields (take-append-drop k part))
    found_taken one (end kind long) =
        on_end (take k part) (kind_taken ∙ kind) (omega (arith, taken)) ∙ ap End (field_taken 1 1 (omega arith))

pub on_taken : (part : List ℕ) (k : ℕ) → longest_record ≤ k → record_on (take k part) ≡ record_on part
on_taken part k h =
    elim (dec_le (length part) k) [
      | yes s ↦ ap record_on (take_all k part s)
      | no s ↦ found_taken part k h (omega arith) (record_on part) (found part)
    ]
