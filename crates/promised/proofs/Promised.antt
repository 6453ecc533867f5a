-- An answer that is the one a contract names is the one that specs/Promised.antt promises.
use Rattle.std.specs.Prelude.{Result}
use Prim.Native.Nat.{ℕ}
use native.Mathlib.Omega.{arith}
use native.Mathlib.Decide.{dec_le}
use mathlib.Core.Path.{◌≡◌, refl, sym, ap, subst, ◌∙◌}
use mathlib.Core.Logic.{◌⊎◌, inl, inr}
use mathlib.Core.Bool.{Bool}
use mathlib.Core.List.{List, [], ◌∷◌, ◌++◌}
use lib.ListN.{length, drop}
use Rattle.laws.specs.Checks.{first_failing}
use Rattle.laws.proofs.Tests.{not_one}
use Rattle.quantities.specs.declared.Row.{Row}
use Rattle.quantities.specs.declared.Table.{Table}
use Rattle.quantities.specs.declared.Fault.{Fault}
use Rattle.quantities.specs.Table.{rows_of, empty_table, with_row}
use Rattle.quantities.specs.Checks.{list_checks, room_checks, list_fault, lent_fault, checked_of}
use Rattle.quantities.specs.Lengths.{numbers}
use Rattle.quantities.proofs.Sound.{sound_list_means}
use Rattle.windows.specs.Answer.{Judged, judged, judged_into, answer_paper}
use Rattle.windows.specs.declared.Answer.{Answer}
use Rattle.windows.specs.declared.Answer.TheVariants.{NotShown}
use Rattle.windows.proofs.Into.{into_refused, into_room}
use Rattle.records.specs.declared.Record.{Record}
use Rattle.records.specs.declared.Record.TheVariants.{Missing, Unknown, Cut, Board, Row as RowOf, End}
use Rattle.std.specs.Prelude.{Result, Ok, Err}
use Rattle.records.specs.declared.Kind.{Kind}
use Rattle.records.specs.declared.Kind.TheVariants as kinds
use Rattle.records.specs.declared.UnknownKind.{UnknownKind}
use Rattle.records.specs.Records.{StandsFor, record_length, record_on, size_on, is_end}
use Rattle.sheet.specs.Reader.{read_of}
use Rattle.sheet.specs.declared.Outcome.{Outcome}
use Rattle.text.specs.Printed.{Printed}
use Rattle.analysis.specs.Analysis.{analysis_of}
use Rattle.analysis.specs.declared.Analysis.{Analysis}
use Rattle.lentrows.specs.declared.Told.{Told}
use Rattle.lentrows.specs.Lent.{told_of}
use Rattle.exports.specs.Exported.{rows_from, Exported}
use Rattle.bench.specs.declared.Bench.{Bench}
use Rattle.bench.specs.declared.Refusal.{Refusal}
use Rattle.bench.specs.declared.Refusal.TheVariants.{NoPlace, Unfinished, TooSoon, WrongDemand, ClockEnd, BrokenRecord}
use Rattle.bench.specs.declared.Finish.{Finish}
use Rattle.bench.specs.declared.Request.{Request}
use Rattle.bench.specs.declared.Request.TheVariants.{Release, Tick}
use Rattle.bench.specs.declared.Opening.{Opening}
use Rattle.bench.specs.declared.Released.{Released}
use Rattle.bench.specs.declared.Ticked.{Ticked}
use Rattle.bench.specs.Refusal.{Outcome as CallOutcome, outcome_paper, refusal_paper, release_tests, tick_tests, outcome_of}
use Rattle.bench.specs.State.{broken}
use Rattle.bench.specs.Ended.{finishes_of}
use Rattle.bench.specs.Step.{opening_of, release, tick, released_of, ticked_of}
use Rattle.bench.specs.History.{releases, ticks, do_call, call_of}
use Rattle.bench.proofs.Steps.{release_no_polls}
use Rattle.replay.specs.Replay.{Replayed, Replay, replay}
use Rattle.rowpages.specs.Lists.{fault_at}
use Rattle.rowpages.specs.Windows.{EveryRowShown, FirstRowNotShown, JudgedBy}
use Rattle.rowpages.specs.Lent.{InEntries}
use Rattle.benchpages.specs.Calls.{release_order, tick_order, ListsPolls}
use Rattle.sheetpages.proofs.Sheets.{sheets_read, sheet_turned_away}
use Rattle.promises.proofs.Tool.{goes_the_whole_way, text_at_the_front}
use Rattle.rowpages.proofs.Lists.{lent_order_lem, fault_of_first, sound_in_range, faulty_list_turned_away}
use Rattle.rowpages.proofs.Windows.{judged_right}
use Rattle.sheetpages.proofs.SheetRecords.{records_come_back, parts_told}
use Rattle.rowpages.proofs.Lent.{by_value, told_for, lent_turned_away, lent_judged, callers_in_c}
use Rattle.rowpages.proofs.Tables.{table_made, table_checked}
use Rattle.benchpages.proofs.Broken.{broken_exactly}
use Rattle.benchpages.proofs.Calls.{call_turned_away, call_taken, gives_29}
use Rattle.benchpages.proofs.Openings.{opening_refused, opening_taken, ended_listed, calls_answered}
use Rattle.benchpages.proofs.Moves.{release_starts, tick_serves}
use Rattle.benchpages.proofs.CallBytes.{replay_answered, replay_no_room, replay_not_opened}
use Rattle.promised.specs.Promised.{SheetAnswer, TextAnswer, AnalysisAnswer, TableAnswer}
use Rattle.promised.specs.Promised.{KindAnswer, RecordAnswer, size_is, EndAnswer, ToldAnswer}
use Rattle.promised.specs.Promised.{NoRows, OneRowMore, OpeningAnswer, ReleaseAnswer, TickAnswer}
use Rattle.promised.specs.Promised.{BrokenAnswer, RequestAnswer, OutcomeBy, number_is, place_is, ReplayAnswer, AnswerForC}

pub sheet_answer : (sheet : List ℕ) (r : Outcome) → r ≡ read_of sheet → SheetAnswer sheet r
sheet_answer sheet r is =
    rw is (record { whole = sheets_read sheet; faulty = sheet_turned_away sheet })

pub text_answer : (sheet before after : List ℕ) (count : ℕ) → Printed sheet before after count
    → TextAnswer sheet before after count
text_answer sheet before after count printed =
    let front = text_at_the_front sheet before after count printed in
    record {
      whole = λ n whole room. rw (front.0 room).0 (goes_the_whole_way.whole sheet n whole);
      faulty = λ one fault room. (front.0 room).0 ∙ goes_the_whole_way.faulty sheet one fault;
      many = sym printed.part;
      later = elim (dec_le 2856 (length before)) [
        | yes room ↦ (front.0 room).1
        | no short ↦ ap (drop count) (front.2 (omega arith)).0
      ];
      short = front.2;
    }

pub analysis_answer : (cores : ℕ) (table : Table) (r : Analysis)
    → r ≡ analysis_of (judged cores (rows_of table))
    → AnalysisAnswer cores table r
analysis_answer cores table r is =
    let rows = rows_of table in
    let j = judged cores rows in
    rw is
    (record {
      in_range = λ range.
          let (same, entries) = by_value cores rows in
          record { bounds = j.bounds; right = rw same (judged_right cores rows range); entries = entries };
      faulty = λ one first.
          let turned = faulty_list_turned_away cores rows one first in
          let (same, entries) = by_value cores rows in (
            same ∙ turned.answers,
            subst (λ (bounds : List ℕ). InEntries bounds (numbers (analysis_of j).bounds))
                turned.no_bounds entries,
          );
    })

pub table_answer : (cores : ℕ) (table : Table) (r : Result (Unit {0}) Fault) → r ≡ checked_of (list_fault cores (rows_of table))
    → TableAnswer cores table r
table_answer cores table r is =
    record {
      in_range = λ range. is ∙ table_checked.sound cores table range;
      faulty = λ one first. is ∙ table_checked.faulty cores table one first;
    }

pub no_rows_yet : (r : Table) → r ≡ empty_table → NoRows r
no_rows_yet r is = rw is table_made.empty

pub one_row_more : (table : Table) (row : Row) (r : Table) → length table.rows ≡ 32 → r ≡ with_row table row
    → OneRowMore table row r
one_row_more table row r many is =
    rw is
    (record {
      below = table_made.one_more table row many;
      full = table_made.full table row;
      keeps = table_made.full_keeps table row;
    })

pub record_answer : (part : List ℕ) (r : Record) → r ≡ record_on part → RecordAnswer part r
record_answer part r is =
    record {
      no_byte = λ e. is ∙ ap record_on e ∙ parts_told.no_byte;
      unknown = λ kind rest e one two three. is ∙ ap record_on e ∙ parts_told.unknown kind rest one two three;
      cut_board = λ rest e short. is ∙ ap record_on e ∙ parts_told.cut_board rest short;
      cut_row = λ rest e short. is ∙ ap record_on e ∙ parts_told.cut_row rest short;
      cut_end = λ e. is ∙ ap record_on e ∙ parts_told.cut_end;
      board = λ cores tick rest fits e. is ∙ ap record_on e ∙ (records_come_back.board cores tick rest fits).1;
      row = λ label priority c d t rest fits e.
          is ∙ ap record_on e ∙ (records_come_back.row label priority c d t rest fits).1;
      end = λ count rest fits e. is ∙ ap record_on e ∙ (records_come_back.end count rest fits).1;
    }

pub kind_answer : (byte : ℕ) (r : Result Kind UnknownKind) → StandsFor byte r → KindAnswer byte r
unfolding record_length
kind_answer byte (Ok kinds.Board) is =
    record {
      board = λ e. refl;
      row = λ e. absurd (omega arith);
      end = λ e. absurd (omega arith);
      unknown = λ one two three. absurd (one (omega arith));
    }
kind_answer byte (Ok kinds.Row) is =
    record {
      board = λ e. absurd (omega arith);
      row = λ e. refl;
      end = λ e. absurd (omega arith);
      unknown = λ one two three. absurd (two (omega arith));
    }
kind_answer byte (Ok kinds.End) is =
    record {
      board = λ e. absurd (omega arith);
      row = λ e. absurd (omega arith);
      end = λ e. refl;
      unknown = λ one two three. absurd (three (omega arith));
    }
kind_answer byte (Err other) is =
    record {
      board = λ e. absurd (omega (arith, rw e at is.1));
      row = λ e. absurd (omega (arith, rw e at is.1));
      end = λ e. absurd (omega (arith, rw e at is.1));
      unknown = λ one two three. ap (λ (n : ℕ). Err (record { 0 = n })) is.0;
    }

pub size_answer : (part : List ℕ) (r : ℕ) → r ≡ size_on part → r ≡ size_is part
unfolding record_length
size_answer [] r is = is
size_answer (kind ∷ rest) r is = is

end_answer_of : (found : Record) → EndAnswer found (is_end found)
unfolding is_end
end_answer_of Missing = ((λ e. absurd (not_one cc)), λ (c, e). cc)
end_answer_of Unknown = ((λ e. absurd (not_one cc)), λ (c, e). cc)
end_answer_of (Cut kind) = ((λ e. absurd (not_one cc)), λ (c, e). cc)
end_answer_of (Board cores tick) = ((λ e. absurd (not_one cc)), λ (c, e). cc)
end_answer_of (RowOf fields) = ((λ e. absurd (not_one cc)), λ (c, e). cc)
end_answer_of (End count) = ((λ e. (count, refl)), λ e. refl)

pub end_answer : (found : Record) (r : Bool) → r ≡ is_end found → EndAnswer found r
end_answer found r is = rw is (end_answer_of found)

pub opening_answer : (cores : ℕ) (table : Table) (r : Opening) → r ≡ opening_of cores table
    → OpeningAnswer cores table r
opening_answer cores table r is =
    rw is
    (record {
      in_range = λ range. (opening_taken cores table range).0;
      faulty = λ one first.
          let refused = opening_refused cores table one first in
          record {
            found = refused.found;
            on_paper = refused.on_paper;
            blank = refused.stands_for_none;
            no_bench_holds = rw refused.stands_for_none ((gives_29 _ ticks).0 (refused.no_call ticks).on_paper);
          };
    })

pub broken_answer : (b : Bench) (r : Bool) → r ≡ broken b → BrokenAnswer b r
broken_answer b r is = rw is (broken_exactly b)

-- a bench of the code has a state for each of 32 rows
pub release_answer : (b : Bench) (place demand : ℕ) (r : Released) → length b.states ≡ 32
    → r ≡ released_of (release b place demand) → ReleaseAnswer b place demand r
unfolding released_of
release_answer b place demand r many is =
    rw is
    (record {
      turned_away = λ one first.
          let turned = call_turned_away b (releases place demand) one first in
          (turned.on_paper, turned.same_bench);
      taken = λ passed.
          let starts = release_starts b place demand many passed in
          record {
            outcome = starts.outcome;
            last = starts.last;
            released = starts.released;
            remains = starts.remains;
            others = starts.others;
            clock = starts.clock;
            board = starts.board;
            none_end = refl;
          };
    })

pub tick_answer : (b : Bench) (r : Ticked) → length b.states ≡ 32 → r ≡ ticked_of (tick b) → TickAnswer b r
unfolding ticked_of
tick_answer b r many is =
    rw is
    (record {
      turned_away = λ one first.
          let turned = call_turned_away b ticks one first in
          record {
            on_paper = turned.on_paper;
            none_end =
                subst (λ (polls : List Finish). ListsPolls polls (ticked_of (tick b)).finishes) turned.none_end
                (ended_listed.1 b);
            same_bench = turned.same_bench;
          };
      taken = λ passed.
          record { polls = (tick b).finishes; listed = ended_listed.1 b; serves = tick_serves b many passed };
    })

pub request_answer : (b : Bench) (request : Request) (r : Ticked) → length b.states ≡ 32
    → r ≡ ticked_of (do_call b (call_of request)) → RequestAnswer b request r
unfolding ticked_of released_of release call_of
request_answer b Tick r many is = tick_answer b r many is
request_answer b (Release place demand) r many is = (
  release_answer b place demand.0 (record { outcome = r.outcome; bench = r.bench }) many
      (ap (λ (answer : Ticked). record { outcome = answer.outcome; bench = answer.bench }) is),
  rw is
      (subst (λ (polls : List Finish). ListsPolls [] (finishes_of polls)) (sym (release_no_polls b place demand.0))
      (ended_listed.0 [] (omega arith))),
)

-- what a judge says is the outcome of the call
pub release_judged : (b : Bench) (place demand : ℕ) (r : CallOutcome)
    → r ≡ outcome_of (first_failing (release_tests b place demand)) → OutcomeBy (release_order b place demand) r
release_judged b place demand r is =
    let same = is ∙ calls_answered.judge_release b place demand in
    record {
      turned_away = λ one first.
          ap outcome_paper same ∙ (call_turned_away b (releases place demand) one first).on_paper;
      taken = λ passed. same ∙ call_taken b (releases place demand) passed;
    }

pub tick_judged : (b : Bench) (r : CallOutcome) → r ≡ outcome_of (first_failing (tick_tests b))
    → OutcomeBy (tick_order b) r
tick_judged b r is =
    let same = is ∙ calls_answered.judge_tick b in
    record {
      turned_away = λ one first. ap outcome_paper same ∙ (call_turned_away b ticks one first).on_paper;
      taken = λ passed. same ∙ call_taken b ticks passed;
    }

-- a refusal's number and place on paper are those of the page
pub numbered : (why : Refusal) → (refusal_paper why).number ≡ number_is why
unfolding refusal_paper number_is
numbered (NoPlace place) = refl
numbered (Unfinished place) = refl
numbered (TooSoon place) = refl
numbered (WrongDemand place) = refl
numbered ClockEnd = refl
numbered BrokenRecord = refl

pub placed : (why : Refusal) → (refusal_paper why).place ≡ place_is why
unfolding refusal_paper place_is
placed (NoPlace place) = refl
placed (Unfinished place) = refl
placed (TooSoon place) = refl
placed (WrongDemand place) = refl
placed ClockEnd = refl
placed BrokenRecord = refl

pub replay_answer : (cores : ℕ) (table : Table) (calls before after : List ℕ) (r : Replayed)
    → r ≡ (replay cores table calls before).answer → after ≡ (replay cores table calls before).out
    → ReplayAnswer cores table calls before after r
replay_answer cores table calls before after r is leaves =
    rw (is, leaves)
    (record {
      all_room = λ range room. replay_answered cores table range calls before room;
      no_room = λ range done rest next these room short.
          let stops = replay_no_room cores table range calls before done rest next these room short in
          (ap (λ (p : Replay). p.answer) stops, ap (λ (p : Replay). p.out) stops);
      not_opened = λ one first.
          let none = replay_not_opened cores table one first calls before in
          (ap (λ (p : Replay). p.answer) none, ap (λ (p : Replay). p.out) none);
    })

-- a row that is not shown has number 8
late_number_lem : (cores : ℕ) (rows : List Row) (answer : Answer) (bounds : List ℕ) (number place : ℕ)
    → JudgedBy cores rows (record { answer = answer; bounds = bounds }) → answer ≡ NotShown number place → number ≡ 8
late_number_lem cores rows answer bounds number place right e = go right.ends
  where
    j : Judged
    j = record { answer = answer; bounds = bounds }

    go : EveryRowShown rows j ⊎ FirstRowNotShown cores rows j → number ≡ 8
    go (inl every) = let says = every.says in absurd (not_one cc)
    go (inr late) = let says = late.says in cc

pub answer_for_c : (cores : ℕ) (triples : List (List ℕ)) (before after : List ℕ) (code : ℕ)
    → Exported (judged_into cores (length before) (rows_from triples)) before after code
    → AnswerForC cores (rows_from triples) before after code
unfolding answer_paper
answer_for_c cores triples before after code exported =
    let rows = rows_from triples in
    let to_c = callers_in_c cores triples before after code exported in
    record {
      judges = λ range room.
          let right = lent_judged cores rows before after to_c.answer to_c.given range room in
          record {
            answer = to_c.answer;
            right = right;
            all_shown = λ e. to_c.coded ∙ rw e refl;
            not_shown_holds = λ number place e.
                let late = late_number_lem cores rows to_c.answer _ number place right.right e in
                (late, to_c.coded ∙ rw (e, late) refl);
          };
      faulty = λ one first.
          let turned = lent_turned_away cores rows before after to_c.answer one to_c.given first in
          (to_c.coded ∙ rw turned.on_paper refl, turned.same_list);
    }

-- what is told of a table, from what is told of every list
pub told_answer : (cores : ℕ) (table : Table) (room : ℕ) (r : Told)
    → r ≡ told_of (judged_into cores room (rows_of table)) → ToldAnswer cores table room r
unfolding told_of lent_fault
told_answer cores table room r is =
    let rows = rows_of table in
    let told = told_for cores room rows in
    rw is
    (record {
      judges = λ range fits.
          let sound = (sound_list_means cores rows).1 (sound_in_range cores rows range) in
          record {
            bounds = (judged_into cores room rows).bounds;
            right = rw (into_room cores room rows sound fits) (judged_right cores rows range);
            entries = told.bounds;
            shown = refl;
          };
      faulty = λ one first.
          let checks = rw (lent_order_lem cores room rows) at first in
          let found = fault_of_first (list_checks cores rows ++ room_checks room rows) one checks in
          let refused = into_refused cores room rows (fault_at one.number one.place) found in (
            ap (λ (j : Judged). j.answer) refused,
            subst (λ (bounds : List ℕ). InEntries bounds (numbers (told_of (judged_into cores room rows)).bounds))
                (ap (λ (j : Judged). j.bounds) refused) told.bounds,
            ap (λ (j : Judged). length j.bounds) refused,
          );
    })
