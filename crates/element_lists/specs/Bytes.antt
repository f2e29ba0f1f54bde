-- Bytes as hexadecimal text.
use Rattle.std.specs.Prelude.{◌≡◌, ℕ, ◌+◌, ◌%◌, ◌<◌, ◌≢◌, List, length}
use Rattle.level.specs.Bytes.{Octets}
use Rattle.element_text.specs.Hex.{hex, Broken}
use Rattle.element_lists.specs.declared.bytes.BytesFault.{BytesFault}
use Rattle.element_lists.specs.declared.bytes.BytesFault.TheVariants.{Odd, Digit, Memory}

-- the text writes the bytes
pub record BytesOf (text bytes : List ℕ) : Type 0 where
  pub octets : Octets bytes
  pub text_is : text ≡ hex bytes

abbrev pub BadBytes : List ℕ → BytesFault → Type 0
BadBytes text Odd = length text % 2 ≡ 1
BadBytes text (Digit place) = (at : ℕ) × (place ≡ at + 1) × (at < length text) × Broken text at
BadBytes text Memory = Unit {0}

-- a refusal, other than for want of memory, is of a text that writes no bytes
abbrev pub RefusedWriteNoBytes : Type 0
RefusedWriteNoBytes = (text bytes : List ℕ) (f : BytesFault) → f ≢ Memory → BadBytes text f → BytesOf text bytes → ⊥

-- a text writes at most one list of bytes
abbrev pub BytesDetermined : Type 0
BytesDetermined = (text bs cs : List ℕ) → BytesOf text bs → BytesOf text cs → bs ≡ cs
