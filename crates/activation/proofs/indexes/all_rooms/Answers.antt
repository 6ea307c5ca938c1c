use Rattle.std.proofs.Common.{rules, ◌≡◌, ◌≤◌, [], All, sym, subst, vec_capacity}
use Rattle.std.proofs.lemmas.List.Elements.{All-append, All-cons, All-nil}
use Rattle.activation.specs.Contents.{most_links}
use Rattle.activation.proofs.Played.{has_room_is}
use Rattle.activation.proofs.indexes.all_rooms.Goals as goal

pub loop-preserved : goal.loop-preserved
loop-preserved g c = (
  search rules,
  search rules,
  subst (All (λ room. (room.items ≡ []) × (most_links ≤ vec_capacity room))) (sym c.push_reserved.ensures.items)
      (All-append (λ room. (room.items ≡ []) × (most_links ≤ vec_capacity room)) c.loop.all.items _ c.loop.invariant.2 (All-cons (λ room. (room.items ≡ []) × (most_links ≤ vec_capacity room)) c.in_ok-with_capacity.field-0 [] (search rules, has_room_is (vec_capacity c.in_ok-with_capacity.field-0) (search rules)) (All-nil (λ room. (room.items ≡ []) × (most_links ≤ vec_capacity room))))),
)
