-- The three demands hold.
use Rattle.sheet.proofs.Readings.{read_to_means}
use Rattle.running.proofs.Running.{bounds_hold}
use Rattle.running.proofs.Replayed.{replay_in_time}
use Rattle.promises.specs.Promises.{Demand1, Demand2, Demand3}
use Rattle.rowpages.proofs.Quantities.{kept_apart}
use Rattle.sheetpages.proofs.Sheets.{sheet_either, sheet_taken, taken_sheet_is_whole, sheet_turned_away}
use Rattle.sheetpages.proofs.Sheets.{refused_sheet_has_fault, no_byte_at_the_end, whole_length, sheets_read, one_reading}
use Rattle.sheetpages.proofs.SheetRecords.{records_come_back, parts_told, priorities_to_999, row_records_to_32, thirty_two_taken}
use Rattle.rowpages.proofs.Lists.{faulty_list_turned_away, refused_list_has_fault, taken_exactly}
use Rattle.rowpages.proofs.Lists.{cores_to_16, rows_to_32, gaps_to_1000000}
use Rattle.rowpages.proofs.Tables.{named_limits, table_made, table_checked}
use Rattle.rowpages.proofs.Lent.{lent_answered, lent_turned_away, refused_lent_has_fault, lent_judged, one_lent}
use Rattle.rowpages.proofs.Lent.{of_lengths, by_value, told_for, triple_is_row, triples_in_order, callers_in_c}
use Rattle.benchpages.proofs.Broken.{broken_exactly}
use Rattle.benchpages.proofs.Calls.{gives_29, call_turned_away, call_taken, refused_call_has_fault}
use Rattle.benchpages.proofs.Calls.{refused_changes_nothing, gap_permitted, first_release_permitted}
use Rattle.benchpages.proofs.Openings.{opening_refused, opening_taken, opened_holds, refusal_numbers}
use Rattle.benchpages.proofs.Openings.{clock_to_1000000000, ended_listed, calls_answered}
use Rattle.benchpages.proofs.CallBytes.{requests_read, requests_done, poll_comes_back, polls_fit_bytes, answer_comes_back}
use Rattle.benchpages.proofs.CallBytes.{replay_answered, replay_no_room, replay_not_opened}
use Rattle.benchpages.proofs.Moves.{release_starts, no_other_release, tick_serves, no_other_tick}
use Rattle.rowpages.proofs.Windows.{judged_right, one_judgement_by_rules, largest_total, floor_form, formulas_answered}
use Rattle.rowpages.proofs.Solution.{bounds_solve}
use Rattle.rowpages.proofs.Patterns.{plain_is_largest, carry_is_largest, no_more_than_carry}
use Rattle.promises.proofs.Tool.{goes_the_whole_way, one_text_printed, in_decimal, words_in_bytes, text_at_the_front, first_1024}
use Rattle.promises.proofs.Tool.{output_of_document}
use Rattle.benchpages.proofs.Clock.{clock_counts}
use Rattle.benchpages.proofs.Polls.{polls_end, polls_end_in_ticks, polls_end_or_wait}
use Rattle.benchpages.proofs.LentPolls.{lent_calls_answer, lent_runs_on, lent_run_hears, lent_runs_history}
use Rattle.benchpages.proofs.LentPolls.{lent_bounds_hold, lent_polls_end}
use Rattle.benchpages.proofs.Histories.{history_runs, books}
use Rattle.benchpages.proofs.Below.{answer_from_above, run_from_above}

pub demand_1 : Demand1
demand_1 =
    record {
      kinds = kept_apart;
      sheets =
          record {
            either = sheet_either;
            taken = sheet_taken;
            taken_is_whole = taken_sheet_is_whole;
            turned_away = sheet_turned_away;
            refused = refused_sheet_has_fault;
            no_byte = no_byte_at_the_end;
            lengths = whole_length;
            readings = read_to_means;
            records = records_come_back;
            parts = parts_told;
            priorities = priorities_to_999;
            thirty_third_row = row_records_to_32;
            thirty_two_rows = thirty_two_taken;
          };
      lists =
          record {
            turned_away = faulty_list_turned_away;
            refused = refused_list_has_fault;
            taken = taken_exactly;
            cores = cores_to_16;
            rows = rows_to_32;
            gaps = gaps_to_1000000;
            limits = named_limits;
            tables = table_made;
            checked = table_checked;
          };
      lent_lists =
          record {
            of_lengths = of_lengths;
            answered = lent_answered;
            turned_away = lent_turned_away;
            refused = refused_lent_has_fault;
            by_value = by_value;
            told = told_for;
            triple = triple_is_row;
            triples = triples_in_order;
            in_c = callers_in_c;
          };
      benches =
          record {
            openings_refused = opening_refused;
            openings = opening_taken;
            opened = opened_holds;
            broken = broken_exactly;
            gives_29 = gives_29;
            turned_away = call_turned_away;
            taken = call_taken;
            refused = refused_call_has_fault;
            unchanged = refused_changes_nothing;
            numbers = refusal_numbers;
            gap = gap_permitted;
            first_release = first_release_permitted;
            clock = clock_to_1000000000;
            releases = release_starts;
            no_other_release = no_other_release;
            ticks = tick_serves;
            no_other_tick = no_other_tick;
            listed = ended_listed;
            functions = calls_answered;
          };
      replays =
          record {
            requests = requests_read;
            done = requests_done;
            polls = poll_comes_back;
            polls_fit = polls_fit_bytes;
            answers = answer_comes_back;
            answered = replay_answered;
            no_room = replay_no_room;
            not_opened = replay_not_opened;
          };
    }

pub demand_2 : Demand2
demand_2 =
    record {
      ours =
          record {
            sheets = sheets_read;
            lists = judged_right;
            lent_answered = lent_answered;
            lent_lists = lent_judged;
            whole_way = goes_the_whole_way;
          };
      one_reading = one_reading;
      one_judgement = one_judgement_by_rules;
      one_lent = one_lent;
      one_text = one_text_printed;
      largest_total = largest_total;
      floor_form = floor_form;
      least_solution = bounds_solve;
      formulas = formulas_answered;
      largest_plain = plain_is_largest;
      largest_carry = carry_is_largest;
      carry_in_short_windows = no_more_than_carry;
      digits = in_decimal;
      words = words_in_bytes;
      printed = text_at_the_front;
      document = output_of_document;
      first_bytes = first_1024;
    }

pub demand_3 : Demand3
demand_3 =
    record {
      holds = bounds_hold;
      polls_end = polls_end;
      in_ticks = polls_end_in_ticks;
      or_wait = polls_end_or_wait;
      clock = clock_counts;
      lent_runs = lent_runs_on;
      lent_hears = lent_run_hears;
      lent_histories = lent_runs_history;
      lent_holds = lent_bounds_hold;
      lent_polls_end = lent_polls_end;
      lent_calls = lent_calls_answer;
      histories = history_runs;
      books = books;
      answer_from_above = answer_from_above;
      run_from_above = run_from_above;
      in_code = replay_in_time;
    }
