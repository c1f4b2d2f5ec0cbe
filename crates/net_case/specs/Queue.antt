-- The tokens of a stream that wait to be taken.
use Rattle.std.specs.Prelude.{ℕ, List, drop, vec_capacity}
use Rattle.tapa_base.specs.declared.token.Token.{Token}
use Rattle.net_case.specs.declared.queue.Queue.{Queue}

-- the next one first
abbrev pub waits : Queue → List Token
waits q = drop q.head q.tokens.items

-- how many tokens the list can hold without more memory
abbrev pub space : Queue → ℕ
space q = vec_capacity q.tokens
