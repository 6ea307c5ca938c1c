-- The test for equality of two links decides whether they are one.
use Rattle.std.proofs.Common.{◌≡◌, ap, eqb, ◌&&◌}
use Rattle.std.specs.Bool.{Decides}
use Rattle.std.proofs.lemmas.Bool.Decides.{Decides-eqb, Decides-and, Decides-like}
use Rattle.jack_types.specs.declared.ports.Link.{Link}

same_link : (a b : Link) → (a.from ≡ b.from) × (a.to ≡ b.to) → a ≡ b
same_link a b same i = record { from = same.0 i; to = same.1 i }

pub link-Decides : (a b : Link) → Decides (eqb a.from b.from && eqb a.to b.to) (a ≡ b)
link-Decides a b =
    Decides-like (eqb a.from b.from && eqb a.to b.to) (same_link a b) (λ e. (ap (λ (l : Link). l.from) e, ap (λ (l : Link). l.to) e))
    (Decides-and (eqb a.from b.from) (eqb a.to b.to) (Decides-eqb a.from b.from) (Decides-eqb a.to b.to))
