-- The words for each fault of a text.
use Rattle.std.specs.Prelude.{ℕ, List, ◌++◌, codes, decimal}
use Rattle.element_text.specs.declared.element.TextFault.{TextFault}
use Rattle.element_text.specs.declared.element.TextFault.TheVariants.{Length, Digit}

abbrev pub digit_message : ℕ → List ℕ
digit_message at = codes "the character at " ++ (decimal at ++ codes ", counted from 0, is no lower-case hexadecimal digit")

abbrev pub text_message : TextFault → List ℕ
text_message (Length expected actual) = codes "the text has " ++ (decimal actual ++ (codes " characters in place of " ++ decimal expected))
text_message (Digit at) = digit_message at
