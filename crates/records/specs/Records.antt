-- The records of a sheet: a kind byte, then a body whose length the kind fixes.
use Rattle.std.specs.Prelude.{ℕ, suc, ◌≡◌, Bool, true, false, cond, List, [], ◌∷◌, eqb, ltb, length, get_or, Result, MatchResult}
use Rattle.quantities.specs.declared.Micros.{Micros}
use Rattle.records.specs.Bytes.{field}
use Rattle.records.specs.declared.Kind.{Kind}
use Rattle.records.specs.declared.Kind.TheVariants as kinds
use Rattle.records.specs.declared.UnknownKind.{UnknownKind}
use Rattle.records.specs.declared.RowFields.{RowFields}
use Rattle.records.specs.declared.Record.{Record}
use Rattle.records.specs.declared.Record.TheVariants.{Missing, Unknown, Cut, Board, Row, End}

abbrev pub board_kind : ℕ
board_kind = 1

abbrev pub row_kind : ℕ
row_kind = 2

abbrev pub end_kind : ℕ
end_kind = 3

-- the lengths of the records, kind byte included
abbrev pub board_length : ℕ
board_length = 4

abbrev pub row_length : ℕ
row_length = 17

abbrev pub end_length : ℕ
end_length = 2

-- the length that no record exceeds
abbrev pub longest_record : ℕ
longest_record = row_length

-- the length of a record by its kind; 0 for a kind that no record has
unfoldable pub record_length : ℕ → ℕ
record_length kind =
    cond (eqb kind board_kind) board_length (cond (eqb kind row_kind) row_length (cond (eqb kind end_kind) end_length 0))

-- the byte that stands for a kind
abbrev pub kind_number : Kind → ℕ
kind_number kinds.Board = board_kind
kind_number kinds.Row = row_kind
kind_number kinds.End = end_kind

-- the kind that a byte stands for, where a record has it
unfoldable pub kind_of : ℕ → Kind
kind_of kind = cond (eqb kind board_kind) kinds.Board (cond (eqb kind row_kind) kinds.Row kinds.End)

-- A byte stands for this kind, or for none that a record has.
abbrev pub StandsFor : ℕ → Result Kind UnknownKind → Type 0
StandsFor byte answer =
    MatchResult answer (λ kind. kind_number kind ≡ byte) (λ unknown. (unknown.0 ≡ byte) × (record_length byte ≡ 0))

-- whether a kind is that of a row record
unfoldable pub is_row_kind : ℕ → Bool
is_row_kind kind = eqb kind row_kind

-- the kind byte of a part that begins where a record should
abbrev pub kind_on : List ℕ → ℕ
kind_on part = get_or part 0 0

-- how many bytes the record on a part takes: the length that its kind fixes, also where it is cut short; 0 where
-- there is no byte, or a kind that no record has
abbrev pub size_on : List ℕ → ℕ
size_on part = record_length (kind_on part)

-- the cores and the tick length of a board record, the number of an end record; the part begins at its kind byte
abbrev pub cores_on : List ℕ → ℕ
cores_on part = field 1 1 part

abbrev pub tick_on : List ℕ → Micros
tick_on part = record { 0 = field 2 2 part }

abbrev pub count_on : List ℕ → ℕ
count_on part = field 1 1 part

-- the fields of a row record; the part begins at its kind byte
unfoldable pub row_fields : List ℕ → RowFields
row_fields part =
    record {
      label = field 1 2 part;
      priority = field 3 2 part;
      c = record { 0 = field 5 4 part };
      d = record { 0 = field 9 4 part };
      t = record { 0 = field 13 4 part };
    }

-- the fields of no row record
abbrev pub blank_fields : RowFields
blank_fields =
    record {
      label = 0;
      priority = 0;
      c = record { 0 = 0 };
      d = record { 0 = 0 };
      t = record { 0 = 0 };
    }

-- a whole record of a kind, with its fields; the part begins at its kind byte
unfoldable pub whole_record : ℕ → List ℕ → Record
whole_record kind part =
    cond (eqb kind board_kind) (Board (cores_on part) (tick_on part))
    (cond (is_row_kind kind) (Row (row_fields part)) (End (count_on part)))

-- what stands on a part that begins where a record should
unfoldable pub record_on : List ℕ → Record
record_on [] = Missing
record_on (kind ∷ body) =
    cond (eqb (record_length kind) 0) Unknown
    (cond (ltb (suc (length body)) (record_length kind)) (Cut kind) (whole_record kind (kind ∷ body)))

-- whether a record is the end record
unfoldable pub is_end : Record → Bool
is_end Missing = false
is_end Unknown = false
is_end (Cut kind) = false
is_end (Board cores tick) = false
is_end (Row fields) = false
is_end (End count) = true

-- A part that is one whole record of a kind, and nothing more.
pub record OneRecord (kind : ℕ) (part : List ℕ) : Type 0 where
  pub of_kind : kind_on part ≡ kind
  pub in_full : length part ≡ record_length kind

-- A part that is one whole row record, and nothing more.
pub record RowRecord (part : List ℕ) : Type 0 where
  pub is_row : is_row_kind (kind_on part) ≡ true
  pub in_full : length part ≡ size_on part
