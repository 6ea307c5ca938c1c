-- Text that grows line by line is the text of a graph.
--     client-put, ports-next, ports-kept, clients-next, edges-next      one line more, or one item more
--     text-finished      all lines
use Rattle.std.proofs.Common.{◌≡◌, ℕ, ◌+◌, ◌<◌, true, false, List, [], ◌∷◌, ◌++◌, length, map, filter, flat_map, take, get_or, codes, refl, sym, ap, ◌∙◌, append-nil}
use Rattle.std.specs.Prelude.{IfOk, Result}
use Rattle.std.specs.Str.{bytes_eq}
use Rattle.std.proofs.lemmas.List.{map-append, take_more}
use Rattle.std.proofs.lemmas.List.Concat.{flat_map-append}
use Rattle.std.proofs.lemmas.List.Elements.{filter-append}
use Rattle.jack_types.specs.Names.{client_part}
use Rattle.jack_types.specs.declared.ports.Client.{Client}
use Rattle.jack_types.specs.declared.ports.Edge.{Edge}
use Rattle.jack_types.specs.declared.ports.Port.{Port}
use Rattle.session_model.specs.Grammar.{Slot, Word, Fixed, slot_text}
use Rattle.session_model.specs.Ids.{connection, connections, open_port, open_ports}
use Rattle.session_model.specs.State.{State, OpenClient, OpenPort, Connection, is_system}
use Rattle.port_registry.specs.Registered.{is_of, open_client, open_clients}
use Rattle.script_text.specs.Printing.{with_words, with_line, with_lines}
use Rattle.script_text.proofs.PrintingLemmas.{line-put, with_lines-append, with_lines-more}
use Rattle.report_reader.specs.declared.rows.CycleLine.{CycleLine}
use Rattle.session_graph.specs.Texts.{activity_word, shown_kind, client_slots, port_slots, connection_slots, cycle_slots, transport_slots, end_slots, port_lines, client_lines, graph_text}

words-append : (text : List ℕ) (a b : List Slot) → with_words text (a ++ b) ≡ with_words (with_words text a) b
words-append text [] b = refl
words-append text (slot ∷ a) b = words-append (text ++ 32 ∷ slot_text slot) a b

-- the line of a client
pub client-put : {T E : Type 0} (result : Result T E) (old begun named shown said new : List ℕ) (client : OpenClient)
    → begun ≡ old ++ codes "client" → named ≡ begun ++ 32 ∷ client.name → shown ≡ with_words named (shown_kind (is_system client.name) client.kind)
    → said ≡ shown ++ 32 ∷ activity_word client.active → IfOk result (λ _. new ≡ said ++ 10 ∷ []) → IfOk result (λ _. new ≡ with_line old (client_slots client))
client-put result old begun named shown said new client b n s w e =
    line-put result old begun said new (Word (codes "client")) (Fixed client.name ∷ shown_kind (is_system client.name) client.kind ++ Word (activity_word client.active) ∷ []) b
    (w ∙ ap (λ (t : List ℕ). t ++ 32 ∷ activity_word client.active) (s ∙ ap (λ (t : List ℕ). with_words t (shown_kind (is_system client.name) client.kind)) n)
    ∙ sym (words-append (begun ++ 32 ∷ client.name) (shown_kind (is_system client.name) client.kind) (Word (activity_word client.active) ∷ [])))
    e

ports-append : (client : List ℕ) (xs ys : List Port) → port_lines (open_ports (xs ++ ys)) client ≡ port_lines (open_ports xs) client ++ port_lines (open_ports ys) client
ports-append client xs ys =
    ap (λ (ps : List OpenPort). port_lines ps client) (map-append open_port xs ys)
    ∙ ap (map port_slots) (filter-append (λ (port : OpenPort). bytes_eq (client_part port.name) client) (open_ports xs) (open_ports ys))
    ∙ map-append port_slots (filter (λ (port : OpenPort). bytes_eq (client_part port.name) client) (open_ports xs)) (filter (λ (port : OpenPort). bytes_eq (client_part port.name) client) (open_ports ys))

-- one port more of a client, or one of another
ports-more : (text client : List ℕ) (ports : List Port) (i : ℕ) (x : Port) (before now : List ℕ) → i < length ports → x ≡ get_or ports i x
    → before ≡ with_lines text (port_lines (open_ports (take i ports)) client) → now ≡ with_lines before (port_lines (open_ports (x ∷ [])) client)
    → now ≡ with_lines text (port_lines (open_ports (take (i + 1) ports)) client)
ports-more text client ports i x before now lt is b n =
    n ∙ ap (λ (t : List ℕ). with_lines t (port_lines (open_ports (x ∷ [])) client)) b
    ∙ sym (with_lines-append text (port_lines (open_ports (take i ports)) client) (port_lines (open_ports (x ∷ [])) client))
    ∙ ap (λ (ls : List (List Slot)). with_lines text ls) (sym (ports-append client (take i ports) (x ∷ [])))
    ∙ ap (λ (ps : List Port). with_lines text (port_lines (open_ports ps) client)) (ap (λ (y : Port). take i ports ++ y ∷ []) is ∙ sym (take_more ports i x lt))

pub ports-next : (text client : List ℕ) (ports : List Port) (i : ℕ) (x : Port) (before now : List ℕ) → i < length ports → x ≡ get_or ports i x
    → before ≡ with_lines text (port_lines (open_ports (take i ports)) client) → is_of client x ≡ true → now ≡ with_line before (port_slots (open_port x))
    → now ≡ with_lines text (port_lines (open_ports (take (i + 1) ports)) client)
ports-next text client ports i x before now lt is b own n = ports-more text client ports i x before now lt is b (rw own n)

pub ports-kept : (text client : List ℕ) (ports : List Port) (i : ℕ) (x : Port) (before now : List ℕ) → i < length ports → x ≡ get_or ports i x
    → before ≡ with_lines text (port_lines (open_ports (take i ports)) client) → is_of client x ≡ false → now ≡ before
    → now ≡ with_lines text (port_lines (open_ports (take (i + 1) ports)) client)
ports-kept text client ports i x before now lt is b other n = ports-more text client ports i x before now lt is b (rw other n)

-- one client more
pub clients-next : (text : List ℕ) (lines : OpenClient → List (List Slot)) (clients : List Client) (i : ℕ) (x : Client) (before now : List ℕ) → i < length clients → x ≡ get_or clients i x
    → before ≡ with_lines text (flat_map lines (open_clients (take i clients))) → now ≡ with_lines before (lines (open_client x))
    → now ≡ with_lines text (flat_map lines (open_clients (take (i + 1) clients)))
clients-next text lines clients i x before now lt is b n =
    n ∙ ap (λ (t : List ℕ). with_lines t (lines (open_client x))) b
    ∙ sym (with_lines-append text (flat_map lines (open_clients (take i clients))) (lines (open_client x)))
    ∙ ap (λ (ls : List (List Slot)). with_lines text ls)
    (ap (λ (ls : List (List Slot)). flat_map lines (open_clients (take i clients)) ++ ls) (sym (append-nil (lines (open_client x))))
    ∙ sym (flat_map-append lines (open_clients (take i clients)) (open_client x ∷ []))
    ∙ ap (flat_map lines) (sym (map-append open_client (take i clients) (x ∷ []))))
    ∙ ap (λ (cs : List Client). with_lines text (flat_map lines (open_clients cs))) (ap (λ (y : Client). take i clients ++ y ∷ []) is ∙ sym (take_more clients i x lt))

-- one connection more
pub edges-next : (text : List ℕ) (ports : List Port) (edges : List Edge) (i : ℕ) (x : Edge) (before now : List ℕ) → i < length edges → x ≡ get_or edges i x
    → before ≡ with_lines text (map connection_slots (connections ports (take i edges))) → now ≡ with_line before (connection_slots (connection ports x))
    → now ≡ with_lines text (map connection_slots (connections ports (take (i + 1) edges)))
edges-next text ports edges i x before now lt is b n =
    n ∙ ap (λ (t : List ℕ). with_line t (connection_slots (connection ports x))) b
    ∙ sym (with_lines-more text connection_slots (connections ports (take i edges)) (connection ports x))
    ∙ ap (λ (cs : List Connection). with_lines text (map connection_slots cs)) (sym (map-append (connection ports) (take i edges) (x ∷ [])))
    ∙ ap (λ (es : List Edge). with_lines text (map connection_slots (connections ports es))) (ap (λ (y : Edge). take i edges ++ y ∷ []) is ∙ sym (take_more edges i x lt))

pub text-finished : (cycle : CycleLine) (state : State) (t1 t2 t3 t4 t5 : List ℕ) → t1 ≡ with_line [] (cycle_slots cycle)
    → t2 ≡ with_lines t1 (flat_map (client_lines state.ports) state.clients) → t3 ≡ with_lines t2 (map connection_slots state.edges)
    → t4 ≡ with_line t3 (transport_slots cycle) → t5 ≡ with_line t4 end_slots → t5 ≡ graph_text cycle state
text-finished cycle state t1 t2 t3 t4 t5 e1 e2 e3 e4 e5 =
    let clients : List (List Slot) = flat_map (client_lines state.ports) state.clients in
    let edges : List (List Slot) = map connection_slots state.edges in
    e5 ∙ ap (λ (t : List ℕ). with_line t end_slots) (e4 ∙ ap (λ (t : List ℕ). with_line t (transport_slots cycle)) (e3 ∙ ap (λ (t : List ℕ). with_lines t edges) (e2 ∙ ap (λ (t : List ℕ). with_lines t clients) e1)))
    ∙ sym (with_lines-append [] ((cycle_slots cycle ∷ clients) ++ edges) (transport_slots cycle ∷ end_slots ∷ [])
    ∙ ap (λ (t : List ℕ). with_lines t (transport_slots cycle ∷ end_slots ∷ [])) (with_lines-append [] (cycle_slots cycle ∷ clients) edges))
