use Rattle.std.proofs.Common.{◌≡◌, ◌∙◌, ◌∷◌, ◌||◌, [], Bool, List, ap, map, refl, sym}
use Rattle.std.specs.List.{list_any}
use Rattle.session_model.specs.Courses.{is_disk}
use Rattle.session_model.specs.State.{OpenClient}
use Rattle.port_registry.specs.Registered.{open_client}
use Rattle.disk_feeds.proofs.finding.is_played.Goals as goal

any-map : {X Y : Type 0} (f : X → Y) (p : Y → Bool) (xs : List X) → list_any p (map f xs) ≡ list_any (λ x. p (f x)) xs
any-map f p [] = refl
any-map f p (x ∷ xs) = ap (λ b. p (f x) || b) (any-map f p xs)

pub returns : goal.returns
returns c = c.has_player.ensures ∙ sym (any-map open_client (λ (client : OpenClient). is_disk c.args.disk client.kind) c.args.nodes.now)
