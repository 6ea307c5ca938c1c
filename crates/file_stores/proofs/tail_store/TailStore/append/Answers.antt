use Rattle.std.proofs.Common.{length, refl}
use Rattle.file_stores.specs.Drafts.{content_of, stands}
use Rattle.file_stores.proofs.FrontLemmas.{appended-end, appended-front}
use Rattle.file_stores.proofs.tail_store.TailStore.append.Goals as goal

pub invariant_of-self : goal.invariant_of-self
invariant_of-self g c = record {
  ends = λ n e. cc;
  front =
      appended-front (stands c.args.self.now.draft) (content_of c.args.self.now.draft) (stands c.put.new.self)
      (content_of c.put.new.self) c.args.place c.args.bytes.now c.requires c.args.self.now.front c.put.ensures.stands;
}

pub invariant_of-self-2 : goal.invariant_of-self-2
invariant_of-self-2 g c = record {
  ends = appended-end (content_of c.args.self.now.draft) (content_of c.put.new.self) c.behind-self.result c.args.place (length c.args.bytes.now) c.args.bytes.now c.requires refl c.behind-self.ensures c.in_ok-put.ensures.bytes;
  front =
      appended-front (stands c.args.self.now.draft) (content_of c.args.self.now.draft) (stands c.put.new.self)
      (content_of c.put.new.self) c.args.place c.args.bytes.now c.requires c.args.self.now.front c.put.ensures.stands;
}
