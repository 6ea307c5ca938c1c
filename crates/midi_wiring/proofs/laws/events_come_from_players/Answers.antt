use Rattle.midi_wiring.proofs.PlayerLemmas.{always-played, played-lower}
use Rattle.midi_wiring.proofs.laws.events_come_from_players.Goals as goal

pub returns-clause-lower : goal.returns-clause-lower
returns-clause-lower c plan joint node p = played-lower plan p joint node

pub returns-clause-always : goal.returns-clause-always
returns-clause-always c plan joint p = always-played plan p joint
