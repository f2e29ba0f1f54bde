use Rattle.std.proofs.Common.{◌≡◌, ◌*◌, ◌/◌, ◌≤◌, length, drop}
use Rattle.std.specs.Iterator.Adapters.{enumerate_source, enumerate_count}
use Rattle.std.specs.Slice.Iter.{chunks_exact_rest, chunks_exact_size}
use Rattle.packing.specs.Packing.{Packed}
use Rattle.packing.proofs.pack_elements.Given as goal

-- as many elements are written as chunks have come
abbrev pub invariant-loop-w : goal.invariant-loop-w
invariant-loop-w g l =
    let w = enumerate_count l.w-iterator in
    let chunks = enumerate_source l.w-iterator in
    record {
      counted : w ≤ length l.bits / l.len;
      size : chunks_exact_size chunks ≡ l.len;
      rest : chunks_exact_rest chunks ≡ drop (w * l.len) l.bits;
      packed : Packed g.L.Level.means l.bits w l.initial.elements l.elements;
    }
