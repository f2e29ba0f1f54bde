-- When a text is refused, and with which values.
use Rattle.std.specs.Prelude.{◌≡◌, ℕ, ◌<◌, ◌≢◌, List, length}
use Rattle.element_text.specs.Hex.{Broken}
use Rattle.element_text.specs.declared.element.TextFault.{TextFault}
use Rattle.element_text.specs.declared.element.TextFault.TheVariants.{Length, Digit}

-- a text that should have n characters: another length is told first, then the first character that is no digit
abbrev pub BadText : ℕ → List ℕ → TextFault → Type 0
BadText n text (Length expected actual) = (expected ≡ n) × (actual ≡ length text) × (length text ≢ n)
BadText n text (Digit at) = (length text ≡ n) × (at < n) × Broken text at
