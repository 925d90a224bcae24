-- Limits and ranges that several crates share.
use Rattle.std.specs.Prelude.{ℕ, ◌^◌}

-- submissions of a session that are not done
abbrev pub most_pending : ℕ
most_pending = 1024

-- entries of one half of a session, and those kept back for its end
abbrev pub least_steps : ℕ
least_steps = 64

abbrev pub most_steps : ℕ
most_steps = 1000000

abbrev pub steps_kept_back : ℕ
steps_kept_back = 16

-- payload bytes kept in one half of a session
abbrev pub least_kept : ℕ
least_kept = 4096

abbrev pub most_kept : ℕ
most_kept = 134217728

-- management tags of a connection
abbrev pub most_management_tags : ℕ
most_management_tags = 1000000

-- blocks of one request, and bytes of one block
abbrev pub most_blocks : ℕ
most_blocks = 2048

abbrev pub block_length : ℕ
block_length = 512

-- the end of the addresses of a logical unit
abbrev pub address_end : ℕ
address_end = 2 ^ 63

-- the longest data segment that is received
abbrev pub most_received : ℕ
most_received = 262144

-- the longest line of input, and the longest input
abbrev pub line_limit : ℕ
line_limit = 1048576

abbrev pub input_limit : ℕ
input_limit = 1073741824

-- clock readings in milliseconds are below this
abbrev pub reading_end : ℕ
reading_end = 2 ^ 53

-- command tags of a session
abbrev pub most_commands : ℕ
most_commands = 2048

-- live commands of one logical unit
abbrev pub most_queue_depth : ℕ
most_queue_depth = 1024

-- seconds of a timer of the error handler, and of a ping
abbrev pub most_seconds : ℕ
most_seconds = 3600

-- seconds of the replacement time
abbrev pub most_replacement : ℕ
most_replacement = 86400

-- bytes of a data segment or a burst that a key of the login may name (RFC 7143, section 13)
abbrev pub least_segment : ℕ
least_segment = 512

abbrev pub most_segment : ℕ
most_segment = 16777215
