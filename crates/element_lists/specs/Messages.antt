-- The words for each fault of a text that is called by a word.
use Rattle.std.specs.Prelude.{ℕ, List, ◌++◌, codes, decimal}
use Rattle.element_lists.specs.declared.bytes.BytesFault.{BytesFault}
use Rattle.element_lists.specs.declared.bytes.BytesFault.TheVariants as bytes
use Rattle.element_lists.specs.declared.elements.ElementsFault.{ElementsFault}
use Rattle.element_lists.specs.declared.elements.ElementsFault.TheVariants as elements

abbrev pub digit_message : List ℕ → ℕ → List ℕ
digit_message word place = codes "character " ++ (decimal place ++ (codes " of " ++ (word ++ codes " is no lower-case hexadecimal digit")))

abbrev pub elements_message : List ℕ → ElementsFault → List ℕ
elements_message word (elements.Shape digits) = word ++ (codes " is not elements of " ++ (decimal digits ++ codes " digits with single spaces between them"))
elements_message word (elements.Digit place) = digit_message word place
elements_message word elements.Memory = codes "no memory for the elements of " ++ word

abbrev pub bytes_message : List ℕ → BytesFault → List ℕ
bytes_message word bytes.Odd = codes "the last byte of " ++ (word ++ codes " has one digit alone")
bytes_message word (bytes.Digit place) = digit_message word place
bytes_message word bytes.Memory = codes "no memory for the bytes of " ++ word
