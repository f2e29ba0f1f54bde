-- The packed elements of a problem's table in a stretch.
use Rattle.std.proofs.Common.{◌≡◌, ℕ, ◌+◌, ◌-◌, ◌/◌, ◌^◌, ◌<◌, ◌≤◌, List, length, take, None, vec_items, codes, zero-add, length-take-le, ap, ◌∙◌, subst, mul-div_cancel, arith, pow_mono}
use Rattle.level.specs.Bytes.{num_bytes}
use Rattle.level.specs.declared.level.Level.{Ghosts}
use Rattle.element_text.specs.Hex.{shown_bytes, element_text}
use Rattle.multilinear.specs.Cells.{cell, packed}
use Rattle.multilinear.specs.Lent.{lent}
use Rattle.multilinear.proofs.Places.{of_part}
use Rattle.refusals.specs.Steps.{told, packing}
use Rattle.problem.specs.declared.problem.Problem.{Problem}
use Rattle.reduction.specs.Layout.{most, layout_end}
use Rattle.report_lines.specs.Packing.{Packs}
use Rattle.report_lines.specs.Report.{variables_of, lines_below, packed_line}
use Rattle.report_lines.proofs.Packed.{packable, few, variables_are, some_shown}
use Rattle.report_lines.specs.Lines.{line}
use Rattle.report_lines.proofs.Writing.{below_same}
use Rattle.reducing.specs.Held.{HoldsTable}

-- an element of at most 128 coordinates is shown by its bytes
stride_is : (k : ℕ) → k ≤ 7 → num_bytes k ≡ shown_bytes k
unfolding shown_bytes
stride_is k narrow = let few : 2 ^ k ≤ 128 = pow_mono narrow in omega (arith, few)

-- n bytes that are packed into 2^v elements
pub record Sized (k n v : ℕ) : Type 0 where
  pub wide : 3 ≤ k
  pub narrow : k ≤ 7
  pub some : v ≤ 24
  pub count : n / num_bytes k ≡ 2 ^ v
  pub variables : v ≡ variables_of k n

pub sized : (k n v : ℕ) → None ≡ packing (told k) n → Packs k n v → n ≤ 2 ^ 24 → Sized k n v
sized k n v e p small =
    let cells = packable k n e in
    record {
      wide = cells.wide;
      narrow = p.narrow;
      some = few k n v p small;
      count = ap (λ m. n / m) (stride_is k p.narrow) ∙ ap (λ i. i / shown_bytes k) p.bytes ∙ mul-div_cancel (2 ^ v) (some_shown k);
      variables = variables_are k n v p small;
    }

-- as many as a stretch for points of v + k coordinates has room for
pub most_is : (k n v c : ℕ) → Sized k n v → c ≡ v + k → most k c ≡ 2 ^ v
most_is k n v c s e = let same : c - k ≡ v = omega (arith, e) in ap (λ i. 2 ^ i) same

pub table_packed : {X : Type 0} (L : Ghosts X) (problem : Problem X) (c v count : ℕ) (bits : List ℕ) (xs : List X) → bits ≡ vec_items problem.bits
    → Sized L.log (length bits) v → c ≡ v + L.log → layout_end L.log c ≤ length xs → count ≡ length bits / num_bytes L.log
    → ((w : ℕ) → w < count → lent L.means xs w ≡ packed L.log (cell bits) w) → HoldsTable L problem c xs
table_packed L problem c v count bits xs same s e room n elements = record {
  room = room;
  variables = e ∙ ap (λ i. i + L.log) (s.variables ∙ ap (λ (l : List ℕ). variables_of L.log (length l)) same);
  few = omega (arith, s.some, e);
  elements = λ w h. subst (λ (l : List ℕ). lent L.means xs w ≡ packed L.log (cell l) w) same
      (elements w (omega (arith, h, most_is L.log (length bits) v c s e, n, s.count)));
}

-- their lines
pub packed_lines : {X : Type 0} (L : Ghosts X) (count : ℕ) (bits : List ℕ) (xs : List X) → count ≤ length xs
    → ((w : ℕ) → w < count → lent L.means xs w ≡ packed L.log (cell bits) w)
    → lines_below (length (take count xs)) (λ i. line (codes "packed") (element_text (lent L.means (take count xs) i))) ≡ lines_below count (packed_line L.log (cell bits))
packed_lines L count bits xs within elements =
    let text : ℕ → List ℕ = λ i. line (codes "packed") (element_text (lent L.means (take count xs) i)) in
    ap (λ n. lines_below n text) (length-take-le count xs within)
    ∙ below_same count text (packed_line L.log (cell bits))
    (λ i h. ap (λ x. line (codes "packed") (element_text x)) (of_part L.means 0 count xs i h ∙ ap (lent L.means xs) (zero-add i) ∙ elements i h))
