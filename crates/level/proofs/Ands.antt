-- The "and" of two numbers as a product: it is associative, and distributes over the exclusive-or.
use Rattle.std.proofs.Common.{◌≡◌, ℕ, zero, suc, ◌/◌, ◌%◌, ◌<◌, refl, ◌∙◌, ap₂, arith}
use lib.Arith.{bin_ind}
use lib.Bits.{bit_and, bit_xor, and_comm, and_shr, and_mod, xor_shr, xor_mod}

-- what holds of 0 and of 1 holds of every bit
pub bit_cases : (P : ℕ → Type 0) → P 0 → P 1 → (n : ℕ) → n < 2 → P n
bit_cases P a b zero h = a
bit_cases P a b (suc zero) h = b
bit_cases P a b (suc (suc n)) h = absurd (omega arith)

bit_assoc : (a b c : ℕ) → a < 2 → b < 2 → c < 2 → bit_and (bit_and a b) c ≡ bit_and a (bit_and b c)
bit_assoc a b c ha hb hc =
    bit_cases (λ x. bit_and (bit_and x b) c ≡ bit_and x (bit_and b c)) refl
    (bit_cases (λ y. bit_and (bit_and 1 y) c ≡ bit_and 1 (bit_and y c)) refl
    (bit_cases (λ z. bit_and (bit_and 1 1) z ≡ bit_and 1 (bit_and 1 z)) refl refl c hc) b hb) a ha

bit_distributes : (a b c : ℕ) → a < 2 → b < 2 → c < 2 → bit_and a (bit_xor b c) ≡ bit_xor (bit_and a b) (bit_and a c)
bit_distributes a b c ha hb hc =
    bit_cases (λ x. bit_and x (bit_xor b c) ≡ bit_xor (bit_and x b) (bit_and x c)) refl
    (bit_cases (λ y. bit_and 1 (bit_xor y c) ≡ bit_xor (bit_and 1 y) (bit_and 1 c)) (bit_cases (λ z. bit_and 1 z ≡ bit_and 1 z) refl refl c hc)
    (bit_cases (λ z. bit_and 1 (bit_xor 1 z) ≡ bit_xor (bit_and 1 1) (bit_and 1 z)) refl refl c hc) b hb) a ha

-- a number is its lowest bit and the rest
by_bits : (a b : ℕ) → a / 2 ≡ b / 2 → a % 2 ≡ b % 2 → a ≡ b
by_bits a b p q = omega arith

and_half : (a b : ℕ) → bit_and a b / 2 ≡ bit_and (a / 2) (b / 2)
and_half a b = and_shr a b 1

and_low : (a b : ℕ) → bit_and a b % 2 ≡ bit_and (a % 2) (b % 2)
and_low a b = and_mod a b 1

xor_half : (a b : ℕ) → bit_xor a b / 2 ≡ bit_xor (a / 2) (b / 2)
xor_half a b = xor_shr a b 1

xor_low : (a b : ℕ) → bit_xor a b % 2 ≡ bit_xor (a % 2) (b % 2)
xor_low a b = xor_mod a b 1

pub and_assoc : (a b c : ℕ) → bit_and (bit_and a b) c ≡ bit_and a (bit_and b c)
and_assoc =
    bin_ind (λ n. (b c : ℕ) → bit_and (bit_and n b) c ≡ bit_and n (bit_and b c)) (λ b c. refl)
    (λ n ih b c. by_bits _ _ (simp and_half (ih (b / 2) (c / 2)))
    (simp and_low (bit_assoc (n % 2) (b % 2) (c % 2) (omega arith) (omega arith) (omega arith))))

pub and_xor : (a b c : ℕ) → bit_and a (bit_xor b c) ≡ bit_xor (bit_and a b) (bit_and a c)
and_xor =
    bin_ind (λ n. (b c : ℕ) → bit_and n (bit_xor b c) ≡ bit_xor (bit_and n b) (bit_and n c)) (λ b c. refl)
    (λ n ih b c. by_bits _ _ (simp (and_half, xor_half) (ih (b / 2) (c / 2)))
    (simp (and_low, xor_low) (bit_distributes (n % 2) (b % 2) (c % 2) (omega arith) (omega arith) (omega arith))))

pub xor_and : (a b c : ℕ) → bit_and (bit_xor a b) c ≡ bit_xor (bit_and a c) (bit_and b c)
xor_and a b c = and_comm (bit_xor a b) c ∙ and_xor c a b ∙ ap₂ bit_xor (and_comm c a) (and_comm c b)
