use Rattle.std.proofs.Common.{◌≡◌, ℕ, length, refl, sym, subst}
use Rattle.std.specs.Option.{ForSome}
use Rattle.std.specs.declared.option.Option.{Option}
use Rattle.file_stores.specs.Drafts.{content_of, stands}
use Rattle.file_stores.proofs.StandingLemmas.{failed-before}
use Rattle.file_stores.proofs.FrontLemmas.{no-end, patched-end, same-front, stays-front}
use Rattle.file_stores.proofs.tail_store.TailStore.patch.Goals as goal

pub invariant_of-self : goal.invariant_of-self
invariant_of-self g c = record {
  ends = no-end c.take-end.new.self (λ n. ForSome (content_of c.write_out.new.self) (λ ys. length ys ≡ n)) c.take-end.ensures.after;
  front = stays-front (stands c.args.self.now.draft) (content_of c.args.self.now.draft) (stands c.write_out.new.self) (content_of c.write_out.new.self) c.args.self.now.front c.write_out.ensures.part c.write_out.ensures.content;
}

pub returns-in_err-write_out-clause-bytes : goal.returns-in_err-write_out-clause-bytes
returns-in_err-write_out-clause-bytes g c =
    failed-before (content_of c.args.self.now.draft) (content_of c.write_out.new.self) c.from_residual.result c.args.place c.args.bytes.now
    c.from_residual.ensures.0 c.write_out.ensures.content

pub invariant_of-self-2 : goal.invariant_of-self-2
invariant_of-self-2 g c = record {
  ends =
      patched-end (content_of c.args.self.now.draft) (content_of c.write_out.new.self) (content_of c.write_through.new.self) c.take-end.result c.end_of-self.result c.args.place (length c.args.bytes.now) c.args.bytes.now
      (subst (λ (end : Option ℕ). ForSome end (λ n. ForSome (content_of c.args.self.now.draft) (λ ys. length ys ≡ n))) (sym c.take-end.ensures.value) c.args.self.now.ends) c.requires c.write_out.ensures.content refl c.end_of-self.ensures c.in_ok-write_through.ensures.bytes;
  front = same-front (content_of c.write_through.new.self) (stands c.write_through.new.self) c.write_through.ensures.stands;
}
