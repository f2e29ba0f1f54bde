-- Bytes as packed elements.
use Rattle.std.specs.Prelude.{◌≡◌, ℕ, ◌*◌, ◌^◌, ◌≤◌}
use Rattle.element_text.specs.Hex.{shown_bytes}

-- n bytes are 2^v packed elements of log width k
pub record Packs (k n v : ℕ) : Type 0 where
  pub narrow : k ≤ 7
  pub bytes : n ≡ 2 ^ v * shown_bytes k
