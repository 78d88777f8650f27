-- The text of a generation, line after line.
use Rattle.std.proofs.Common.{◌≡◌, ◌∙◌, ℕ, ◌+◌, ◌<◌, ◌≤◌, List, [], ◌∷◌, ◌++◌, length, get_or, drop, refl, sym, ap, subst, append_assoc, append-nil, arith}
use Rattle.std.proofs.lemmas.List.{drop_more, drop_all}
use Rattle.dyn_config.specs.declared.merged.Entry.{Entry}
use Rattle.dyn_config.specs.declared.service.ServiceDef.{ServiceDef}
use Rattle.router_table.specs.declared.row.Row.{Row}
use Rattle.px_base.specs.declared.server.Server.{Server}
use Rattle.service_nodes.specs.declared.graph.Graph.{Graph}
use Rattle.generation_text.specs.Services.{server_line, server_lines, service_lines, services_lines}
use Rattle.generation_text.specs.Texts.{row_text, rows_text, PrintsService, PrintServices}

-- one more row is printed, and fewer are left
pub rows_more : (old new all : List ℕ) (rows : List Row) (number : ℕ) (row : Row) → number < length rows → row ≡ get_or rows number row
    → old ++ rows_text number (drop number rows) ≡ all → new ≡ old ++ row_text number row → new ++ rows_text (number + 1) (drop (number + 1) rows) ≡ all
rows_more old new all rows number row l at e n =
    let first : drop number rows ≡ row ∷ drop (number + 1) rows = drop_more rows number row l ∙ ap (λ r. r ∷ drop (number + 1) rows) (sym at) in
    ap (λ t. t ++ rows_text (number + 1) (drop (number + 1) rows)) n
    ∙ append_assoc old (row_text number row) (rows_text (number + 1) (drop (number + 1) rows))
    ∙ ap (λ rs. old ++ rows_text number rs) (sym first)
    ∙ e

-- all rows are printed
pub rows_done : (new all : List ℕ) (rows : List Row) (number : ℕ) → length rows ≤ number → new ++ rows_text number (drop number rows) ≡ all → new ≡ all
rows_done new all rows number le h = sym (append-nil new) ∙ ap (λ rs. new ++ rows_text number rs) (sym (drop_all number rows le)) ∙ h

-- one more service is printed, and fewer are left
pub services_more : (place after : ℕ) (e : Entry ServiceDef) (rest : List (Entry ServiceDef)) (old new lines more : List ℕ) → PrintsService place e after lines → new ≡ old ++ lines
    → PrintServices after rest more → (all : List ℕ → Type 0) → ((text : List ℕ) → PrintServices place (e ∷ rest) text → all (old ++ text)) → all (new ++ more)
services_more place after e rest old new lines more is n after_it all given =
    rw (n, append_assoc old lines more) (given (lines ++ more) (after, lines, more, is, after_it, refl))

-- all services are printed
pub services_done : (place : ℕ) (rest : List (Entry ServiceDef)) (text : List ℕ) → length rest ≡ 0 → (all : List ℕ → Type 0)
    → ((more : List ℕ) → PrintServices place rest more → all (text ++ more)) → all text
services_done place [] text none all given = subst all (append-nil text) (given [] refl)
services_done place (e ∷ es) text none all given = absurd (omega arith)

-- one more server is printed, and fewer are left
pub servers_more : (old new all : List ℕ) (servers : List Server) (node place : ℕ) (s : Server) → place < length servers → s ≡ get_or servers place s
    → old ++ server_lines node place (drop place servers) ≡ all → new ≡ old ++ server_line node place s → new ++ server_lines node (place + 1) (drop (place + 1) servers) ≡ all
servers_more old new all servers node place s l at e n =
    let rest : List Server = drop (place + 1) servers in
    let first : drop place servers ≡ s ∷ rest = drop_more servers place s l ∙ ap (λ (x : Server). x ∷ rest) (sym at) in
    ap (λ (t : List ℕ). t ++ server_lines node (place + 1) rest) n
    ∙ append_assoc old (server_line node place s) (server_lines node (place + 1) rest)
    ∙ ap (λ (ss : List Server). old ++ server_lines node place ss) (sym first)
    ∙ e

-- all servers are printed
pub servers_done : (new all : List ℕ) (servers : List Server) (node place : ℕ) → length servers ≤ place → new ++ server_lines node place (drop place servers) ≡ all → new ≡ all
servers_done new all servers node place le h = sym (append-nil new) ∙ ap (λ (ss : List Server). new ++ server_lines node place ss) (sym (drop_all place servers le)) ∙ h

-- one more declared service is printed, and fewer are left
pub declared_more : (old new all : List ℕ) (graph : Graph) (services : List (Entry ServiceDef)) (at : ℕ) (e : Entry ServiceDef) → at < length services → e ≡ get_or services at e
    → old ++ services_lines graph (drop at services) ≡ all → new ≡ old ++ service_lines graph e.name → new ++ services_lines graph (drop (at + 1) services) ≡ all
declared_more old new all graph services at e l is before n =
    let rest : List (Entry ServiceDef) = drop (at + 1) services in
    let first : drop at services ≡ e ∷ rest = drop_more services at e l ∙ ap (λ (x : Entry ServiceDef). x ∷ rest) (sym is) in
    ap (λ (t : List ℕ). t ++ services_lines graph rest) n
    ∙ append_assoc old (service_lines graph e.name) (services_lines graph rest)
    ∙ ap (λ (es : List (Entry ServiceDef)). old ++ services_lines graph es) (sym first)
    ∙ before

-- all declared services are printed
pub declared_done : (new all : List ℕ) (graph : Graph) (services : List (Entry ServiceDef)) (at : ℕ) → length services ≤ at → new ++ services_lines graph (drop at services) ≡ all → new ≡ all
declared_done new all graph services at le h =
    sym (append-nil new) ∙ ap (λ (es : List (Entry ServiceDef)). new ++ services_lines graph es) (sym (drop_all at services le)) ∙ h
