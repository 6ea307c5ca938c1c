use Rattle.std.proofs.Common.{not, ◌&&◌, sym, ◌∙◌, ap}
use Rattle.std.proofs.lemmas.Bool.{false_from_ne_true}
use Rattle.std.proofs.lemmas.Str.{IsUtf8-from_is_utf8, is_utf8-from_IsUtf8}
use Rattle.reason_text.specs.Texts.{misleads_behind}
use Rattle.reason_text.proofs.bytes.is_text.Goals as goal

pub returns-in-Ok : goal.returns-in-Ok
returns-in-Ok c =
    ap not c.has_misleading.ensures
    ∙ sym (ap (λ utf8. utf8 && not (misleads_behind 0 0 c.args.bytes.now)) (is_utf8-from_IsUtf8 _ c.in-Ok.ensures.cases.1))

pub returns-in-Err : goal.returns-in-Err
returns-in-Err c =
    sym (ap (λ utf8. utf8 && not (misleads_behind 0 0 c.args.bytes.now)) (false_from_ne_true _ (λ e. c.in-Err.ensures.cases.0 (IsUtf8-from_is_utf8 _ e))))
