-- Private: the keys of a table of names, as lists of words.
use Rattle.std.specs.Prelude.{map}
use Rattle.std.specs.Rc.{rc_str_bytes}
use Rattle.task_core.specs.Names.{Name, Words}

-- Private: the words of a key
abbrev pub key_of : Words → Name
key_of key = map rc_str_bytes key.items
