use Rattle.std.proofs.Common.{rules}
use Rattle.text_write.proofs.pieces.Pieces.{on_next}
use Rattle.print_book.proofs.Stops.{stop_short}
use Rattle.print_book.proofs.put_stop.Goals as goal

pub returns : goal.returns
returns c =
    record {
      placed = on_next (on_next (on_next (on_next c.put_bytes.ensures c.put_number.ensures) c.put_bytes-2.ensures) c.put_number_at.ensures) c.put_bytes-3.ensures;
      place_len_bound = stop_short c.args.k c.args.n c.args.place (search rules) (search rules) (search rules);
    }
