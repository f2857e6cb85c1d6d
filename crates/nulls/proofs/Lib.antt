mod NullBytes
