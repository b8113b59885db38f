-- What is prepared for the evaluator is that of every accepted log that leaves the record.
use Prim.Native.Nat.{ℕ, ◌≤◌}
use mathlib.Core.Path.{◌≡◌, refl, ap}
use mathlib.Core.List.{List}
use lib.ListN.{length}
use Rattle.trace.specs.declared.Record.{Record}
use Rattle.rules.specs.declared.Rule.{Rule}
use Rattle.rules.specs.Rules.{Taken}
use Rattle.order.specs.declared.Order.{Order}
use Rattle.order.specs.Marks.{Orders}
use Rattle.row_table.specs.Rows.{table_words}
use Rattle.rows.specs.ByRank.{RowsFilled}
use Rattle.timeline.specs.Root.{Shaped}
use Rattle.timeline.proofs.Answer.{Found, order_holds, wanted_in}
use Rattle.slip_search.specs.First.{RanksOf}
use Rattle.slips.specs.Parts.{PreparedFor}

pub prepared_for : (file : List ℕ) (x : Rule) (r : Record) (o : Order) (heights frees ranks wanted old new : List ℕ) → Taken file x
    → Orders r.runs r.lines.0 o → o.count ≤ 128 → Shaped file x heights frees → RanksOf o ranks → length ranks ≡ 128
    → Found file x r wanted → RowsFilled r.runs o wanted x.labels old new → table_words ≤ length new
    → PreparedFor file x r (record { heights = heights; frees = frees; ranks = ranks; table = new; runs = o.count })
prepared_for file x r o heights frees ranks wanted old new taken orders few shaped R long found filled room =
    record {
      shaped = shaped;
      table_long = room;
      ranks_long = long;
      runs_few = few;
      ranked = λ log u a e.
          let H = order_holds log u a r e o orders in
          record {
            order = o;
            held = H;
            ranks = R;
            count = refl;
            rows = filled.meaning log file u a (ap (λ (q : Record). q.runs) e) H taken.labels (wanted_in log u a r e file x wanted taken found);
          };
    }
