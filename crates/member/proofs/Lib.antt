mod Areas
