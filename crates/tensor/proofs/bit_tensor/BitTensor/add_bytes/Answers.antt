use Rattle.std.proofs.Common.{◌+◌, ◌-◌, ◌*◌, ◌<◌, ◌≤◌, length, get_or, drop, refl, ap, ◌∙◌, length-drop, length-take, length-take-le, arith}
use Rattle.std.proofs.lemmas.List.{get_or-take}
use Rattle.tensor.proofs.Turns.{byte_fits, byte_more, bytes_all}
use Rattle.tensor.proofs.bit_tensor.BitTensor.add_bytes.Goals as goal

pub loop-j-preserved : goal.loop-j-preserved
loop-j-preserved g c =
    let m = g.L.Level.means in
    let first = c.args.self.now in
    let rows = c.loop-j.self.rows.now in
    let j = c.loop-j.j in
    let start = 8 * j in
    let count = start + c.min-count.result - start in
    let below : j < c.num_bytes.result = omega (arith, length-take c.num_bytes.result c.to_bytes-bytes.result) in
    let fits = byte_fits g.L.Level.log j first.narrow (omega arith) in
    let room : count ≤ length (drop start rows) = omega (arith, fits.0, length-drop start rows, c.loop-j.self.sized) in
    record {
      same = c.loop-j.invariant.same;
      added = byte_more m (m c.args.a) (m c.args.b) first.rows.now rows c.add_byte.new.rows j start count _ first.narrow first.sized (omega (arith, first.sized, c.loop-j.self.sized))
          refl (omega arith) (omega (arith, c.add_byte.auto.rows, length-take-le count (drop start rows) room)) (omega (arith, below))
          (get_or-take c.num_bytes.result c.to_bytes-bytes.result j 0 below ∙ ap (λ bs. get_or bs j 0) c.to_bytes-bytes.ensures) c.loop-j.invariant.added
          c.add_byte.ensures;
    }

pub returns-clause-rows : goal.returns-clause-rows
returns-clause-rows g c =
    let m = g.L.Level.means in
    let first = c.args.self.now in
    let last = (byte_fits g.L.Level.log (c.num_bytes.result - 1) first.narrow (omega arith)).1 in
    bytes_all m (m c.args.a) (m c.args.b) first.rows.now c.loop-j.self.rows.now c.loop-j.j c.num_bytes.result
    first.sized c.num_bytes.ensures (omega (arith, last, length-take c.num_bytes.result c.to_bytes-bytes.result)) c.loop-j.invariant.added
