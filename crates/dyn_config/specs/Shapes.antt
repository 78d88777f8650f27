-- The tables of the schema as the program keeps them.
use Rattle.std.specs.Prelude.{ℕ, ◌+◌, ℤ, Bool, true, nat_lt, nat_le, List, Option, None}
use Rattle.std.specs.List.{list_all}
use Rattle.dyn_config.specs.Values.{is_weight, is_percent, is_size, is_cookie_name, is_cookie_text, is_same_site, is_probe_path}
use Rattle.dyn_config.specs.Walk.{Entry, Check, Row, options_fault, open_fault, names_fault, kinds_fault, lines_fault, table, open_table, any_table, names, one_of, lines, list, number_cmp, same_key, same_number}
use Rattle.dyn_config.specs.Schema.{anything, text, text_if, number_if, if_natural, flag, time, router_rows, cookie_rows, sticky_rows, health_rows, server_rows, balancer_rows, child_rows, weighted_rows, mirror_rows, mirroring_rows, failover_rows, service_rows, add_prefix_rows, strip_prefix_rows, replace_path_rows, replace_path_regex_rows, headers_rows, ip_allow_list_rows, buffering_rows, chain_rows, redirect_scheme_rows, redirect_regex_rows, middleware_rows, http_rows, top_rows}
use Rattle.dyn_config.specs.declared.schema.Shape.{Shape}
use Rattle.dyn_config.specs.declared.schema.Shape.TheVariants as shape
use Rattle.dyn_config.specs.declared.schema.TextRange.{TextRange}
use Rattle.dyn_config.specs.declared.schema.TextRange.TheVariants as texts
use Rattle.dyn_config.specs.declared.schema.NumberRange.{NumberRange}
use Rattle.dyn_config.specs.declared.schema.NumberRange.TheVariants as numbers
use Rattle.dyn_config.specs.declared.schema.Table.{Table}
use Rattle.dyn_config.specs.declared.schema.Table.TheVariants as tables
use Rattle.dyn_config.specs.declared.schema.Declared.{Declared}
use Rattle.dyn_config.specs.declared.schema.Declared.TheVariants as declared
use Rattle.dyn_config.specs.declared.schema.Family.{Family}
use Rattle.dyn_config.specs.declared.schema.Family.TheVariants as families
use Rattle.dyn_config.specs.declared.schema.Row.{Row as Kept}
use Rattle.std.specs.declared.cmp.Ordering.{Ordering}
use Rattle.field_tree.specs.declared.values.Style.{Style}
use Rattle.field_tree.specs.Keys.{walk_cmp}
use Rattle.dyn_config.specs.declared.found.Fault.{Fault}
use Rattle.dyn_config.specs.declared.found.Order.{Order}
use Rattle.dyn_config.specs.declared.found.Order.TheVariants.{Walk, Number}

abbrev pub is_text_of : TextRange → List ℕ → Bool
is_text_of texts.Whatever bytes = true
is_text_of texts.CookieName bytes = is_cookie_name bytes
is_text_of texts.CookieText bytes = is_cookie_text bytes
is_text_of texts.SameSite bytes = is_same_site bytes
is_text_of texts.ProbePath bytes = is_probe_path bytes

abbrev pub is_number_of : NumberRange → ℤ → Bool
is_number_of numbers.All number = true
is_number_of numbers.Weight number = if_natural is_weight number
is_number_of numbers.Percent number = if_natural is_percent number
is_number_of numbers.Short number = if_natural (λ n. nat_le n 65535) number
is_number_of numbers.Size number = is_size number

abbrev pub rows_of : Table → List Row
rows_of tables.Router = router_rows
rows_of tables.Cookie = cookie_rows
rows_of tables.Sticky = sticky_rows
rows_of tables.Health = health_rows
rows_of tables.Server = server_rows
rows_of tables.Balancer = balancer_rows
rows_of tables.Child = child_rows
rows_of tables.Weighted = weighted_rows
rows_of tables.Mirror = mirror_rows
rows_of tables.Mirroring = mirroring_rows
rows_of tables.Failover = failover_rows
rows_of tables.AddPrefix = add_prefix_rows
rows_of tables.StripPrefix = strip_prefix_rows
rows_of tables.ReplacePath = replace_path_rows
rows_of tables.ReplacePathRegex = replace_path_regex_rows
rows_of tables.Headers = headers_rows
rows_of tables.IpAllowList = ip_allow_list_rows
rows_of tables.Buffering = buffering_rows
rows_of tables.Chain = chain_rows
rows_of tables.RedirectScheme = redirect_scheme_rows
rows_of tables.RedirectRegex = redirect_regex_rows
rows_of tables.Http = http_rows
rows_of tables.Top = top_rows

abbrev pub kinds_of : Family → List Row
kinds_of families.Services = service_rows
kinds_of families.Middlewares = middleware_rows

abbrev pub limit_of : Declared → ℕ
limit_of declared.Routers = 2000
limit_of declared.Services = 500
limit_of declared.Middlewares = 500

abbrev pub declared_check : Declared → Check
declared_check declared.Routers = table router_rows
declared_check declared.Services = one_of service_rows
declared_check declared.Middlewares = one_of middleware_rows

abbrev pub meaning : Shape → Check
meaning shape.Anything = anything
meaning shape.AnyTable = any_table
meaning shape.Flag = flag
meaning shape.Time = time
meaning (shape.Text range) = text_if (is_text_of range)
meaning (shape.Number range) = number_if (is_number_of range)
meaning shape.Texts = list text
meaning shape.Lines = lines
meaning (shape.Options t) = table (rows_of t)
meaning (shape.Open t) = open_table (rows_of t)
meaning (shape.Tables t) = list (table (rows_of t))
meaning (shape.Names d) = names (limit_of d) (declared_check d)
meaning (shape.Kinds f) = one_of (kinds_of f)

-- What is asked of the entries of a table.
abbrev pub entries_fault : Shape → Style → List Entry → Option Fault
entries_fault shape.Lines style entries = lines_fault entries
entries_fault (shape.Options t) style entries = options_fault (rows_of t) style entries
entries_fault (shape.Open t) style entries = open_fault (rows_of t) style entries
entries_fault (shape.Names d) style entries = names_fault (limit_of d) (declared_check d) style entries
entries_fault (shape.Kinds f) style entries = kinds_fault (kinds_of f) style entries
entries_fault _ style entries = None

abbrev pub row_view : Kept → Row
row_view r = record { key = r.key.now; required = r.required; check = meaning r.shape }

-- How many tables may stand in one another below.
abbrev pub table_depth : Table → ℕ
table_depth tables.Sticky = 3
table_depth tables.Balancer = 4
table_depth tables.Weighted = 4
table_depth tables.Mirroring = 4
table_depth tables.Http = 8
table_depth tables.Top = 9
table_depth _ = 2

abbrev pub depth : Shape → ℕ
depth shape.Texts = 1
depth (shape.Options t) = table_depth t
depth (shape.Open t) = table_depth t
depth (shape.Tables t) = table_depth t + 1
depth (shape.Names d) = 7
depth (shape.Kinds f) = 5
depth _ = 0

-- Each row's depth is below the table's.
abbrev pub are_below : ℕ → List Kept → Bool
are_below above rows = list_all (λ row. nat_lt (depth row.shape) above) rows

-- The order in which the keys of a table are visited.
abbrev pub order_of : Order → List ℕ → List ℕ → Ordering
order_of Walk = walk_cmp
order_of Number = number_cmp

-- Which keys are one in that order.
abbrev pub sameness_of : Order → List ℕ → List ℕ → Bool
sameness_of Walk = same_key
sameness_of Number = same_number
