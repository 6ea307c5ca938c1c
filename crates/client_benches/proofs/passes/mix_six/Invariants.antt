use Rattle.std.proofs.Common.{◌≡◌, [], ◌∷◌, length}
use Rattle.client_benches.proofs.PartLemmas.{IsMixed}
use Rattle.client_benches.proofs.passes.mix_six.Given as goal

abbrev pub invariant-loop-place : goal.invariant-loop-place
invariant-loop-place l = record { long : length l.out ≡ length l.initial.out; done : IsMixed l.place l.out (l.one ∷ l.two ∷ l.three ∷ l.four ∷ l.five ∷ l.six ∷ []) }

abbrev pub invariant-loop-lacking : goal.invariant-loop-lacking
invariant-loop-lacking l = record { long : length l.out ≡ length l.initial.out; done : IsMixed l.lacking l.out (l.one ∷ l.two ∷ l.three ∷ l.four ∷ l.five ∷ l.six ∷ []) }
