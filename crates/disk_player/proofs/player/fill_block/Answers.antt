use Rattle.std.proofs.Common.{◌≡◌, ℕ, ◌*◌, List, length, ℤ, sym, ◌∙◌, ap, subst, rules}
use Rattle.disk_player.specs.Insides.{FillsBlock}
use Rattle.disk_player.proofs.BlockLemmas.{fills-block, length-set_len, seen-whole}
use Rattle.disk_player.proofs.player.fill_block.Goals as goal

pub returns-clause-fills : goal.returns-clause-fills
returns-clause-fills g c =
    let long : length c.set_len.new.self.items ≡ c.args.size = ap (λ s. length s.items) c.set_len.ensures ∙ length-set_len c.args.size c.args.block.now.samples.items in
    let read : length c.read_block.new.block ≡ length c.set_len.new.self.items = c.read_block.ensures.length ∙ ap length c.as_mut_slice.ensures.value in
    let channels : c.from.result ≡ c.args.wave.now.format.channels = c.from.ensures ∙ ap (λ f. f.channels) c.format.ensures ∙ ap (λ f. f.channels) c.read_block.ensures.same.format in
    subst (λ (items : List ℤ). FillsBlock c.args.wave.now c.read_block.new.wave items c.args.size (c.in_ok-frames.frames * c.from.result)) (sym (seen-whole c.set_len.new.self.items c.read_block.new.block read))
    (subst (λ (n : ℕ). FillsBlock c.args.wave.now c.read_block.new.wave c.read_block.new.block c.args.size (c.in_ok-frames.frames * n)) (sym channels)
    (fills-block c.args.wave.now c.read_block.new.wave c.read_block.new.block c.args.size c.in_ok-frames.frames (read ∙ long) c.requires.readable
    (search rules) c.in_ok-frames.ensures.given c.in_ok-frames.ensures.limit c.in_ok-frames.ensures.samples (search rules)))
