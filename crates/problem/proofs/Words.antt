-- The words for a fault begin with n only where it is a want of memory.
use Rattle.std.proofs.Common.{◌≡◌, ℕ, false, ◌≢◌, ◌++◌, get_or, List, arith, sym}
use Rattle.std.proofs.lemmas.Bool.{false≢true}
use Rattle.element_lists.specs.declared.bytes.BytesFault.TheVariants as bytes
use Rattle.element_lists.specs.declared.elements.ElementsFault.TheVariants as elements
use Rattle.explain_input.specs.declared.key.Key.{Key}
use Rattle.explain_input.specs.declared.key.Key.TheVariants as key
use Rattle.explain_input.specs.Keys.{word_of}
use Rattle.problem.specs.Reading.{wants_memory}
use Rattle.problem.specs.Messages.{problem_message}
use Rattle.problem.specs.declared.reading.ProblemFault.{ProblemFault}
use Rattle.problem.specs.declared.reading.ProblemFault.TheVariants.{NoBatching, Bits, TooLarge, Elements, Challenge, Memory}

key_word : (by : Key) (more : List ℕ) → get_or (word_of by ++ more) 0 0 ≢ 110
key_word key.Level more e = omega (arith, e)
key_word key.Bits more e = omega (arith, e)
key_word key.Point more e = omega (arith, e)
key_word key.View more e = omega (arith, e)
key_word key.Batching more e = omega (arith, e)
key_word key.Challenge more e = omega (arith, e)
key_word key.Closing more e = omega (arith, e)

pub no_n : (f : ProblemFault) → wants_memory f ≡ false → get_or (problem_message f) 0 0 ≢ 110
no_n NoBatching m e = omega (arith, e)
no_n (Bits bytes.Odd) m e = omega (arith, e)
no_n (Bits (bytes.Digit place)) m e = omega (arith, e)
no_n (Bits bytes.Memory) m e = false≢true (sym m)
no_n TooLarge m e = omega (arith, e)
no_n (Elements by (elements.Shape digits)) m e = key_word by _ e
no_n (Elements by (elements.Digit place)) m e = omega (arith, e)
no_n (Elements by elements.Memory) m e = false≢true (sym m)
no_n Challenge m e = omega (arith, e)
no_n Memory m e = false≢true (sym m)
