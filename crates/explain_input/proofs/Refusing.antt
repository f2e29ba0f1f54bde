-- A refused input says nothing.
use Rattle.std.proofs.Common.{◌≡◌, ℕ, ◌<◌, true, List, [], ◌∷◌, length, is_some, Some, None, Option, refl, ap, subst, arith}
use Rattle.std.proofs.lemmas.Bool.{false≢true}
use Rattle.std.specs.Option.{option_to_list}
use Rattle.explain_input.specs.Inputs.{Parts, Says, Optional, needed, single, RefusedSayNothing}
use Rattle.explain_input.specs.Keys.{lines, texts}
use Rattle.explain_input.specs.Values.{Number, NoNumber, Letter}
use Rattle.explain_input.specs.declared.fault.InputFault.TheVariants as fault
use Rattle.explain_input.specs.declared.key.Key.{Key}
use Rattle.explain_input.specs.declared.key.Key.TheVariants.{Level, Bits, Point, View, Batching, Challenge, Closing}

few : {X : Type 0} (o : Option X) → length (option_to_list o) < 2
few None = omega arith
few (Some x) = omega arith

few_numbers : (ts : List (List ℕ)) (o : Option ℕ) → Optional Number ts o → length ts < 2
few_numbers ts None e = omega (arith, ap length e)
few_numbers ts (Some n) p = omega (arith, ap length p.1)

module _ (text : List ℕ) (parts : Parts) (says : Says text parts) where
  once : (key : Key) → single key ≡ true → length (texts key (lines text)) < 2
  once Level e = omega (arith, ap length says.level)
  once Bits e = omega (arith, ap length says.bits)
  once Point e = omega (arith, ap length says.point)
  once View e = few_numbers _ parts.view says.view
  once Batching e = omega (arith, ap length says.batching, few parts.batching)
  once Challenge e = omega (arith, ap length says.challenge, few parts.challenge)
  once Closing e = absurd (false≢true e)

  there : (key : Key) → needed key ≡ true → 0 < length (texts key (lines text))
  there Level e = omega (arith, ap length says.level)
  there Bits e = omega (arith, ap length says.bits)
  there Point e = omega (arith, ap length says.point)
  there View e = absurd (false≢true e)
  there Batching e = absurd (false≢true e)
  there Challenge e = absurd (false≢true e)
  there Closing e = absurd (false≢true e)

  same_text : {t u : List ℕ} {ts : List (List ℕ)} → ts ≡ t ∷ [] → ts ≡ u ∷ [] → t ≡ u
  same_text p q = cc

  no_view : (o : Option ℕ) (t : List ℕ) → Optional Number (texts View (lines text)) o → texts View (lines text) ≡ t ∷ [] → NoNumber t → ⊥
  no_view None t e f none = omega (arith, ap length e, ap length f)
  no_view (Some n) t p f none = none n (subst (λ u. Number u n) (same_text p.1 f) p.2)

  alone : (b ch : Option (List ℕ)) → texts Batching (lines text) ≡ option_to_list b → texts Challenge (lines text) ≡ option_to_list ch → (is_some ch ≡ true → is_some b ≡ true)
      → texts Batching (lines text) ≡ [] → 0 < length (texts Challenge (lines text)) → ⊥
  alone None None e f t h k = omega (arith, ap length f)
  alone None (Some x) e f t h k = false≢true (t refl)
  alone (Some y) ch e f t h k = omega (arith, ap length e, ap length h)

pub refused_say_nothing : RefusedSayNothing
refused_say_nothing text (fault.Line n) parts m e says = let z : ◌≡◌ {A = ℕ} 0 1 = cc (e, says.readable) in omega arith
refused_say_nothing text (fault.Twice key) parts m e says = omega (arith, e.1, once text parts says key e.0)
refused_say_nothing text (fault.Missing key) parts m e says = omega (arith, ap length e.1, there text parts says key e.0)
refused_say_nothing text fault.Letter parts m e says =
    e.2 parts.letter (subst (λ t. Letter t parts.letter) (same_text text parts says says.level e.1) says.letter)
refused_say_nothing text fault.Number parts m e says = no_view text parts says parts.view e.0 says.view e.1 e.2
refused_say_nothing text fault.NoBatching parts m e says = alone text parts says parts.batching parts.challenge says.batching says.challenge says.together e.0 e.1
refused_say_nothing text fault.Memory parts m e says = m refl
