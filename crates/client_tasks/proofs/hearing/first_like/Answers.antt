use Rattle.std.proofs.Common.{◌≡◌, ◌≢◌, ◌∙◌, ◌+◌, ◌==◌, ℕ, Bool, cond, false, List, [], ◌∷◌, Some, None, ap, filter, refl, sym}
use Rattle.std.specs.List.{position, position_from}
use Rattle.std.proofs.lemmas.Iterator.Adapters.{position_from-zero}
use Rattle.client_wiring.specs.declared.joints.Joint.{Joint}
use Rattle.client_wiring.specs.declared.joints.Origin.{Origin}
use Rattle.client_wiring.specs.declared.joints.Origin.TheVariants.{Handed, Kept, Captured}
use Rattle.client_tasks.specs.Tasks.{first_like, is_same_channel}
use Rattle.client_tasks.proofs.hearing.first_like.Goals as goal

position-none : {X : Type 0} (p : X → Bool) (xs : List X) → ((x : X) → p x ≡ false) → position p xs ≡ None
position-none {X} p xs fails = position_from-zero p xs ∙ go 0 xs
  where
    go : (n : ℕ) (xs : List X) → position_from p n xs ≡ None
    go n [] = refl
    go n (x ∷ xs) = ap (λ b. cond b (Some n) (position_from p (n + 1) xs)) (fails x) ∙ go (n + 1) xs

-- what is not captured is the same channel as nothing
not-same : (origin other : Origin) → ((channel : ℕ) → origin ≢ Captured channel) → is_same_channel other origin ≡ false
not-same (Captured channel) other other-than = absurd (other-than channel refl)
not-same (Handed link connection) (Handed a b) other-than = refl
not-same (Handed link connection) (Kept a b d) other-than = refl
not-same (Handed link connection) (Captured a) other-than = refl
not-same (Kept node output birth) (Handed a b) other-than = refl
not-same (Kept node output birth) (Kept a b d) other-than = refl
not-same (Kept node output birth) (Captured a) other-than = refl

none-like : (joints : List Joint) (joint : Joint) → ((channel : ℕ) → joint.origin ≢ Captured channel) → None ≡ first_like joints joint
none-like joints joint other-than =
    sym (position-none (λ (other : Joint). is_same_channel other.origin joint.origin) (filter (λ (other : Joint). other.node == joint.node) joints)
    (λ other. not-same joint.origin other.origin other-than))

pub returns-in_default : goal.returns-in_default
returns-in_default c = none-like c.args.joints.now c.args.joint.now c.in_default.not-Captured
