-- A loop that looks up each byte in the table of its position, the tables in chunks of 256.
use Rattle.std.proofs.Common.{◌≡◌, ℕ, ◌+◌, ◌*◌, ◌^◌, ◌<◌, ◌≤◌, ◌⊎◌, List, ◌∷◌, ◌++◌, length, get_or, drop, sym, ap, ◌∙◌, ⊎_elim, arith, length-append, length-drop, length-take-le, take, drop_at, add-zero, pow_mono}
use Rattle.std.proofs.lemmas.List.{drop-drop, get_or-drop, get_or_append_left}
use Rattle.level.specs.Element.{Element}
use Rattle.level.specs.Bytes.{sixteen, num_bytes}
use Rattle.level.proofs.Digits.{length_digits}
use Rattle.multilinear.specs.Lent.{lent}
use Rattle.multilinear.proofs.Lent.{lent_read}

-- the table at position n, before what is left
module _ {X : Type 0} {k : ℕ} (means : X → Element k) (tables chunk rest : List X) (n : ℕ) (parts : drop (n * 256) tables ≡ chunk ++ rest)
    (size : length chunk ≡ 256) where
  pub table_within : (n + 1) * 256 ≤ length tables
  table_within = omega (arith, ap length parts, length-append chunk rest, length-drop (n * 256) tables)

  pub tables_left : rest ≡ drop ((n + 1) * 256) tables
  tables_left =
      let place : n * 256 + 256 ≡ (n + 1) * 256 = omega arith in
      sym (ap (λ i. drop i tables) (sym place) ∙ sym (drop-drop 256 (n * 256) tables) ∙ ap (drop 256) parts ∙ drop_at chunk rest 256 size)

  pub table_read : (b : ℕ) (x : X) → b < 256 → x ≡ get_or chunk b x → means x ≡ lent means tables (256 * n + b)
  table_read b x h e =
      let place : n * 256 + b ≡ 256 * n + b = omega arith in
      lent_read means tables (256 * n + b) x (omega (arith, table_within))
      (e ∙ sym (get_or_append_left chunk rest x b (omega arith)) ∙ ap (λ ys. get_or ys b x) (sym parts) ∙ get_or-drop (n * 256) tables b x
      ∙ ap (λ i. get_or tables i x) place)

-- the byte at position n, before what is left
module _ (bytes rest : List ℕ) (n byte : ℕ) (parts : drop n bytes ≡ byte ∷ rest) where
  pub byte_within : n + 1 ≤ length bytes
  byte_within = omega (arith, ap length parts, length-drop n bytes)

  pub bytes_left : rest ≡ drop (n + 1) bytes
  bytes_left = sym (sym (drop-drop 1 n bytes) ∙ ap (drop 1) parts)

  pub byte_read : byte ≡ get_or bytes n 0
  byte_read = ap (λ bs. get_or bs 0 0) (sym parts) ∙ get_or-drop n bytes 0 0 ∙ ap (λ i. get_or bytes i 0) (add-zero n)

-- no table is left, or no byte
pub all_tables : {X : Type 0} {k : ℕ} (tables : List X) (all bytes : List ℕ) (x : Element k) (m n : ℕ) → k ≤ 7 → length tables ≡ 256 * num_bytes k
    → m ≡ num_bytes k → all ≡ sixteen x → bytes ≡ take m all → n * 256 ≤ length tables → n ≤ length bytes
    → (length (drop (n * 256) tables) < 256) ⊎ (length (drop n bytes) ≡ 0) → length bytes ≤ n
unfolding sixteen
all_tables {k} tables all bytes x m n narrow sized few shown front within short ended =
    let w : 2 ^ k ≤ 128 = pow_mono narrow in
    let size = length-take-le m all (omega (arith, ap length shown, length_digits 16 x.number)) in
    ⊎_elim (λ l. omega (arith, ap length front, size, length-drop (n * 256) tables)) (λ e. omega (arith, length-drop n bytes)) ended
