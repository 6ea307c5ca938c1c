use Rattle.file_stores.specs.Drafts.{content_of, on_disk, stands}
use Rattle.file_stores.specs.Gathering.{waits}
use Rattle.file_stores.specs.Standing.{IsAsBefore}
use Rattle.file_stores.proofs.FrontLemmas.{content-told, handed-front}
use Rattle.file_stores.proofs.tail_store.TailStore.give_up.Goals as goal

pub returns-clause-part : goal.returns-clause-part
returns-clause-part g c =
    handed-front (content_of c.args.self.draft) (stands c.args.self.draft) (g.D.Disk.bytes c.give_up.result.disk)
    (IsAsBefore c.args.self.draft.target.emptied (on_disk c.args.self.draft) (g.D.Disk.bytes c.give_up.result.disk))
    c.args.self.front c.give_up.ensures.part (content-told (stands c.args.self.draft) c.args.self.draft.place (waits c.args.self.draft.gathered))
