-- What was told in a run obeys its law.
use Rattle.std.proofs.Common.{◌≡◌, ℕ, zero, suc, List, [], ◌∷◌, take, drop, ap, ◌∙◌, arith}
use Rattle.level.specs.Element.{Element}
use Rattle.level.specs.Laws.{Arithmetic}
use Rattle.job_rules.specs.Ledger.{Ledger, empty}
use Rattle.job_rules.specs.Lived.{At, Met, WeightsTold, Lived}
use Rattle.job_rules.specs.Replies.{Reply, reply}
use Rattle.job_rules.specs.Requests.{Request}
use Rattle.job_rules.specs.Requests.Request.{IncomingClaim, SuccessorClaim, InitialSum, WeightCount, Weight, ClosingValue}
use Rattle.job_rules.specs.Runs.{after, after_all, replies}
use Rattle.job_rules.proofs.Reaching.{all_reached}
use Rattle.job_rules.proofs.Standing.{Tells, Stands, stands}

-- a reply stands where its request does
replied_at : {k : ℕ} (A : Arithmetic k) (size : ℕ) (l : Ledger k) (requests : List (Request k)) (i : ℕ) (request : Request k) → At requests i request
    → At (replies A size l requests) i (reply A size (after_all A size l (take i requests)) request)
unfolding after_all replies
replied_at A size l [] zero request e = let z : ◌≡◌ {A = ℕ} 0 1 = cc in absurd (omega arith)
replied_at A size l [] (suc i) request e = let z : ◌≡◌ {A = ℕ} 0 1 = cc in absurd (omega arith)
replied_at A size l (q ∷ qs) zero request e = let s : q ≡ request = cc in ap (λ r. reply A size l r ∷ []) s
replied_at A size l (q ∷ qs) (suc i) request e = replied_at A size (after A size l q) qs i request e

one : {X : Type 0} (xs : List X) (i : ℕ) (x y : X) → At xs i x → At xs i y → x ≡ y
one xs i x y e f = cc

module _ {k : ℕ} (A : Arithmetic k) (size : ℕ) (requests : List (Request k)) (told : List (Reply k)) (replied : told ≡ replies A size empty requests) where
  each : (i : ℕ) (request : Request k) (l : Ledger k) → Met A size requests i request l → At told i (reply A size l request)
  each i request l m =
      ap (λ xs. take 1 (drop i xs)) replied ∙ replied_at A size empty requests i request m.asked ∙ ap (λ s. reply A size s request ∷ []) m.ledger

  told_at : (i : ℕ) (request : Request k) (l : Ledger k) (answer : Reply k) → Met A size requests i request l → reply A size l request ≡ answer → At told i answer
  told_at i request l answer m a = each i request l m ∙ ap (λ r. r ∷ []) a

  -- the weights that were told at a ledger are those that it tells
  tells : (l : Ledger k) (w : ℕ → Element k) → WeightsTold A size requests told l w → Tells A size l w
  tells l w t j h = let b = t j h in one told b.0 _ _ (each b.0 (Weight j) l b.1) b.2

  law : (l : Ledger k) → Stands A size l
  law l = stands A size l

  pub lived : Lived A size requests told
  lived = record {
    replied = replied;
    each = each;
    reached = λ i. all_reached k A size (take i requests);
    incoming = λ i l m s. told_at i IncomingClaim l _ m ((law l).incoming s);
    successor = λ i q l m s v. told_at i SuccessorClaim l _ m ((law l).successor q s v);
    count = λ i l m s. told_at i WeightCount l _ m ((law l).count s);
    weights = λ i j l m s h. told_at i (Weight j) l _ m ((law l).weights s j h);
    initial = λ i w l m s t. told_at i InitialSum l _ m ((law l).initial w s (tells l w t));
    closing = λ i z w l m s fit t. told_at i (ClosingValue z) l _ m ((law l).closing w z s (tells l w t) fit);
  }
