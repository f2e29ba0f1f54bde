-- Slices of elements read by what they mean.
use Rattle.std.proofs.Common.{◌≡◌, ℕ, ◌<◌, List, map, length, get_or, sym, ap, ◌∙◌}
use Rattle.std.proofs.lemmas.List.{get_or-map}

-- the meaning of what was read at a place
pub means_at : {X Y : Type 0} (means : X → Y) (xs : List X) (i : ℕ) (x : X) (d : Y) → i < length xs → x ≡ get_or xs i x → means x ≡ get_or (map means xs) i d
means_at means xs i x d h e = ap means e ∙ sym (get_or-map means xs i x d h)
