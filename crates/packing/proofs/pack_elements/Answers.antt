use Rattle.std.proofs.Common.{◌≡◌, ◌+◌, ◌*◌, ◌++◌, ◌/◌, ◌<◌, ◌≤◌, length, drop, set, replicate, ap, ap₂, ◌∙◌, sym, subst, subst₂, arith}
use Rattle.std.specs.Iterator.Adapters.{enumerate_count}
use Rattle.packing.specs.Packing.{Packed}
use Rattle.packing.proofs.ElementsOfBytes.{packed_from_bytes}
use Rattle.packing.proofs.ElementsWritten.{chunk_is, rest_is, chunk_within, chunk_counted, chunks_counted, packed_more}
use Rattle.packing.proofs.pack_elements.Goals as goal

pub loop-w-preserved : goal.loop-w-preserved
loop-w-preserved g c =
    let m = g.L.Level in
    let it = c.loop-w.invariant in
    let s = c.in-Some.ensures.steps in
    let bits = c.args.bits.now in
    let chunk = c.in-Some.bytes.now in
    let w = enumerate_count c.loop-w.w-iterator in
    let len = c.num_bytes-len.result in
    let x = c.from_bytes.result in
    let pos : 0 < len = omega arith in
    let parts = sym it.rest ∙ s.0.1.0 in
    let size : length chunk ≡ len = s.0.1.1 ∙ it.size in
    let fits = chunk_within bits chunk _ w len parts size pos in
    let count = ap (λ n. length bits / n) c.num_bytes-len.ensures in
    let made =
    packed_from_bytes m.log bits w len c.padded.result (m.means x) c.requires.level.0 (λ i. (c.type_inv.bits i).fits) c.num_bytes-len.ensures
    (subst (λ n. (w + 1) * n ≤ length bits) c.num_bytes-len.ensures fits)
    (c.padded.ensures ∙ ap₂ (λ b n. b ++ drop n (replicate 16 0)) (chunk_is bits chunk _ w len parts size) size) c.from_bytes.ensures in
    let counted = chunk_counted bits chunk _ w len parts size pos in
    let within : w < length c.loop-w.elements = omega (arith, counted, count) in
    let written : Packed m.means bits (w + 1) c.args.elements.now (set c.loop-w.elements w x) =
    packed_more m.means bits w c.args.elements.now c.loop-w.elements x within made it.packed in
    let next = s.2 in
    record {
      size = s.0.0 ∙ it.size;
      counted = omega (arith, counted, next);
      rest = rest_is bits chunk _ w len parts size ∙ ap (λ n. drop (n * len) bits) (sym next);
      packed = subst₂ (λ n i. Packed m.means bits n c.args.elements.now (set c.loop-w.elements i x)) (sym next) (sym s.1) written;
    }

pub returns-clause-packed : goal.returns-clause-packed
returns-clause-packed g c =
    let it = c.loop-w.invariant in
    let few = c.in-None.ensures.steps.0.1.0 in
    let bits = c.args.bits.now in
    let len = c.num_bytes-len.result in
    let pos : 0 < len = omega arith in
    let left : length (drop (enumerate_count c.loop-w.w-iterator * len) bits) < len = omega (arith, few, ap length it.rest, it.size) in
    subst (λ n. Packed g.L.Level.means bits n c.args.elements.now c.loop-w.elements)
    (chunks_counted bits (enumerate_count c.loop-w.w-iterator) len pos it.counted left) it.packed
