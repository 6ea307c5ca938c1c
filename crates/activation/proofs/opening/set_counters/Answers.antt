use Rattle.std.proofs.Common.{rules, arith, ◌≡◌, ◌<◌, ◌+◌, ◌++◌, ℕ, suc, List, [], ◌∷◌, length, map, take, get_or, set, sym, ap, ◌∙◌, length-take-le}
use Rattle.std.proofs.Math.Seq.{take-suc}
use Rattle.std.proofs.lemmas.List.{length-map}
use lib.ListN.{get_elem?}
use Rattle.atomic_table.proofs.Lists.{set_else}
use Rattle.activation.specs.Plays.{with_words}
use Rattle.activation.proofs.Alone.{one_more}
use Rattle.activation.proofs.Played.{map-snoc}
use Rattle.activation.proofs.opening.set_counters.Goals as goal

pub loop-node-preserved : goal.loop-node-preserved
loop-node-preserved g c =
    let i = c.loop-node.invariant in
    let k : ℕ = c.loop-node.node in
    let low : k < length c.args.into.now = c.loop-node-test.true in
    let before : List ℕ = map (λ links. length links.items + 1) (take k c.args.into.now) in
    let long : length before ≡ k = length-map (take k c.args.into.now) (λ links. length links.items + 1) ∙ length-take-le k c.args.into.now (omega (arith, low)) in
    let room : 0 < length i.2.0 = (let h = i.2.2 in omega (arith, h, low)) in
    let put = one_more before i.2.0 k (c.len.result + 1) long room in
    let words : c.write.new.seat.me.0.shelf.words ≡ set c.loop-node.seat.me.0.shelf.words k (c.len.result + 1) = ap (λ m. m.0.shelf.words) c.write.ensures.1 in
    let item : c.len.result + 1 ≡ length (get_or c.args.into.now k c.index-into-node.result).items + 1 = search rules in
    let more : before ++ (c.len.result + 1) ∷ [] ≡ map (λ links. length links.items + 1) (take (k + 1) c.args.into.now) =
    ap (λ n. before ++ n ∷ []) item
    ∙ (sym (map-snoc (λ links. length links.items + 1) (take k c.args.into.now) (get_or c.args.into.now k c.index-into-node.result))
    ∙ (ap (map (λ links. length links.items + 1)) (sym (take-suc c.args.into.now k c.index-into-node.result low)) ∙ ap (λ n. map (λ links. length links.items + 1) (take n c.args.into.now)) (let next : suc k ≡ k + 1 = omega arith in next))) in (
      c.write.ensures.0 ∙ i.0,
      c.write.ensures.1 ∙ (λ j. (with_words (i.1 j).0 (sym words j), [])),
      (put.0, words ∙ (ap (λ ws. set ws k (c.len.result + 1)) i.2.1 ∙ (put.1 ∙ ap (λ l. l ++ put.0) more)), (let h = i.2.2 in let s = put.2 in omega (arith, h, s))),
      (λ word far. ap (λ ws. get_elem? ws word) words ∙ (set_else c.loop-node.seat.me.0.shelf.words k word (c.len.result + 1) (λ e. absurd (omega (arith, far, low, e))) ∙ i.3 word far)),
    )
