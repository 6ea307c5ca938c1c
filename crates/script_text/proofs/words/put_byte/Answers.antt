use Rattle.std.proofs.Common.{refl}
use Rattle.std.specs.Fmt.{styled_digits_output}
use Rattle.std.specs.Prelude.{string_bytes}
use Rattle.script_text.proofs.PrintingLemmas.{byte-put}
use Rattle.script_text.proofs.words.put_byte.Goals as goal

pub returns : goal.returns
returns c = byte-put c.write.result (string_bytes c.args.text.now) (string_bytes c.write.new.self) c.args.b (styled_digits_output c.in_radix.result c.laid_out.result) c.ranges.b.fits (rw (c.in_radix.ensures, c.laid_out.ensures) refl) c.write.ensures.bytes
