use Rattle.std.proofs.Common.{rules, ◌≡◌, ◌&&◌, ℕ, ap, length, sym, true, ◌∙◌}
use Rattle.std.specs.Prelude.{◌==◌, nat_le}
use Rattle.std.proofs.lemmas.Bool.{and_parts, leb-true}
use Rattle.samples.specs.session_model.specs.WaveFiles.{u16_at}
use Rattle.wave_pcm.proofs.ContentLemmas.{content_taken, cut_later, whole_told}
use Rattle.wave_pcm.proofs.formats.read_content.Goals as goal

pub returns-in-Ok-clause-taken : goal.returns-in-Ok-clause-taken
returns-in-Ok-clause-taken g c =
    let first : length c.read_part.new.content ≡ 40 = search rules in
    let long : length c.read_part-2.new.content ≡ 40 = search rules in (
      leb-true 40 c.args.size (and_parts (c.u16_at.result == 0xfffe) (nat_le 40 c.args.size) (sym c.if-not-is_long.ensures)).1,
      content_taken _ _ _ c.read_part.new.content c.read_part-2.new.content first long c.in_ok-read_part.ensures.bytes c.in-Ok.ensures.bytes,
    )

pub returns-in-Ok-clause-content : goal.returns-in-Ok-clause-content
returns-in-Ok-clause-content g c =
    let long : length c.read_part-2.new.content ≡ 40 = search rules in
    whole_told c.args.size _ _ _ c.read_part.new.content c.read_part-2.new.content long c.in-Ok.ensures.front c.in_ok-read_part.ensures.bytes c.in-Ok.ensures.bytes

pub returns-in-Err-clause-fails : goal.returns-in-Err-clause-fails
returns-in-Err-clause-fails g c =
    let first : length c.read_part.new.content ≡ 40 = search rules in
    let long : (u16_at c.read_part.new.content 0 == 0xfffe && nat_le 40 c.args.size) ≡ true = ap (λ (t : ℕ). t == 0xfffe && nat_le 40 c.args.size) (sym c.u16_at.ensures) ∙ sym c.if-not-is_long.ensures in
    λ other. cut_later c.args.size c.args.read _ _ c.read_part.new.content c.in-Err.fault first c.in_ok-read_part.ensures.bytes long (c.in-Err.ensures.fails other)
