-- The text of a graph.
--     client_slots client, port_slots port, connection_slots connection      their lines
--     graph_lines cycle state      all lines
--     graph_text cycle state      the text
use Rattle.std.specs.Prelude.{ℕ, Bool, true, false, List, [], ◌∷◌, ◌++◌, map, filter, flat_map, codes}
use Rattle.std.specs.Str.{bytes_eq}
use Rattle.jack_types.specs.Names.{client_part}
use Rattle.jack_types.specs.declared.kinds.Kind.{Kind}
use Rattle.jack_types.specs.declared.ports.Mark.{Mark}
use Rattle.jack_types.specs.declared.ports.Mark.TheVariants.{Direct, Feedback}
use Rattle.session_model.specs.Grammar.{Slot, Word, Fixed, Numeral, kind_slots, way_word, type_word}
use Rattle.session_model.specs.Reports.{state_name, bbt_word}
use Rattle.session_model.specs.State.{State, OpenClient, OpenPort, Connection, is_system}
use Rattle.script_text.specs.Printing.{with_lines}
use Rattle.report_reader.specs.Forms.{printed_place}
use Rattle.report_reader.specs.declared.rows.CycleLine.{CycleLine}

abbrev pub activity_word : Bool → List ℕ
activity_word true = codes "active"
activity_word false = codes "inactive"

abbrev pub mark_word : Mark → List ℕ
mark_word Direct = codes "direct"
mark_word Feedback = codes "feedback"

-- the kind as a script says it; `system` is the device
abbrev pub shown_kind : Bool → Kind → List Slot
shown_kind true kind = Word (codes "device") ∷ []
shown_kind false kind = kind_slots kind

abbrev pub client_slots : OpenClient → List Slot
client_slots client = Word (codes "client") ∷ Fixed client.name ∷ shown_kind (is_system client.name) client.kind ++ Word (activity_word client.active) ∷ []

abbrev pub port_slots : OpenPort → List Slot
port_slots port = Word (codes "port") ∷ Fixed port.name ∷ Word (way_word port.way) ∷ Word (type_word port.kind) ∷ []

abbrev pub connection_slots : Connection → List Slot
connection_slots connection = Word (codes "connected") ∷ Fixed connection.source ∷ Fixed connection.destination ∷ Word (mark_word connection.mark) ∷ []

abbrev pub cycle_slots : CycleLine → List Slot
cycle_slots cycle = Word (codes "cycle") ∷ Numeral cycle.cycle ∷ Word (codes "change") ∷ Numeral cycle.number ∷ []

abbrev pub transport_slots : CycleLine → List Slot
transport_slots cycle = Word (codes "transport") ∷ Word (state_name cycle.state) ∷ Numeral cycle.frame ∷ Word (bbt_word (printed_place cycle.place)) ∷ []

abbrev pub end_slots : List Slot
end_slots = Word (codes "end") ∷ []

-- a client's ports, in order of birth
abbrev pub port_lines : List OpenPort → List ℕ → List (List Slot)
port_lines ports client = map port_slots (filter (λ (port : OpenPort). bytes_eq (client_part port.name) client) ports)

abbrev pub client_lines : List OpenPort → OpenClient → List (List Slot)
client_lines ports client = client_slots client ∷ port_lines ports client.name

-- clients in order of opening with their ports, connections in order of making, and the transport as the report has it
abbrev pub graph_lines : CycleLine → State → List (List Slot)
graph_lines cycle state =
    cycle_slots cycle
    ∷ flat_map (client_lines state.ports) state.clients
    ++ map connection_slots state.edges
    ++ transport_slots cycle ∷ end_slots ∷ []

abbrev pub graph_text : CycleLine → State → List ℕ
graph_text cycle state = with_lines [] (graph_lines cycle state)
